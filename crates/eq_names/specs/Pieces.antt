-- The bytes that the pieces of a pattern take.
use Rattle.std.specs.Prelude.{ℕ, Bool, true, false, not, ◌&&◌, if◌then◌else◌, ◌==◌, nat_le}
use Rattle.std.specs.List.{list_any}
use Rattle.eq_names.specs.declared.piece.ByteRange.{ByteRange}
use Rattle.eq_names.specs.declared.piece.ByteSet.{ByteSet}
use Rattle.eq_names.specs.declared.piece.Piece.{Piece}
use Rattle.eq_names.specs.declared.piece.Piece.TheVariants.{Byte, AnyByte, AnyRun, OneOf}

-- the byte is one of the range
abbrev pub is_within : ByteRange → ℕ → Bool
is_within range b = nat_le range.low b && nat_le b range.high

-- the byte is in the set
abbrev pub has : ByteSet → ℕ → Bool
has set b = if set.negated then not (list_any (λ range. is_within range b) set.ranges) else list_any
    (λ range. is_within range b) set.ranges

-- the piece takes this byte; `*` takes runs, and none by this rule
abbrev pub takes_byte : Piece → ℕ → Bool
takes_byte (Byte own) b = b == own
takes_byte AnyByte b = true
takes_byte AnyRun b = false
takes_byte (OneOf set) b = has set b

-- it is `*`
abbrev pub is_run : Piece → Bool
is_run (Byte own) = false
is_run AnyByte = false
is_run AnyRun = true
is_run (OneOf set) = false

-- it is `*`, `?` or a set
abbrev pub is_wild : Piece → Bool
is_wild (Byte own) = false
is_wild AnyByte = true
is_wild AnyRun = true
is_wild (OneOf set) = true
