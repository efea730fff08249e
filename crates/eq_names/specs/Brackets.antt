-- The set that begins with a `[`, as in the brackets of POSIX (IEEE 1003.1, 9.3.5), with `!` for the other bytes.
use Rattle.std.specs.Prelude.{ℕ, Bool, if◌then◌else◌, ◌==◌, ◌+◌, nat_le, List, [], ◌∷◌, drop, slice_index, position, Option, option_map}
use Rattle.std.specs.List.{list_all}
use Rattle.eq_names.specs.declared.piece.ByteRange.{ByteRange}

-- behind the `[` a `!` stands: the set has all other bytes
abbrev pub is_negated : List ℕ → Bool
is_negated behind = slice_index behind 0 == 33

-- what stands behind the `[` or `[!`
abbrev pub inside : List ℕ → List ℕ
inside behind = if is_negated behind then drop 1 behind else behind

-- The place of the closing `]`: the first that isn't the first byte, which is a member whatever it is.
abbrev pub closing : List ℕ → Option ℕ
closing text = option_map (λ at. at + 1) (position (λ b. b == 93) (drop 1 text))

-- The members between the brackets: `x-y` has the bytes from x to y, and each other byte is one alone. So a `-` makes
-- a range where a byte stands before it that ends no range, and a byte behind it.
abbrev pub members : List ℕ → List ByteRange
members [] = []
members (x ∷ []) = record { low = x; high = x } ∷ []
members (x ∷ y ∷ []) = record { low = x; high = x } ∷ record { low = y; high = y } ∷ []
members (x ∷ y ∷ z ∷ more) =
    if y == 45 then record { low = x; high = z } ∷ members more else record { low = x; high = x } ∷ members
    (y ∷ z ∷ more)

-- no range goes down
abbrev pub are_ranges : List ByteRange → Bool
are_ranges ranges = list_all (λ range. nat_le range.low range.high) ranges
