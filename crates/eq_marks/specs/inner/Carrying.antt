-- Mirrors src/carrying.rt; nothing here has to be believed.
-- The marks of the bits of words, from those of the nets' bits.
use Rattle.std.specs.Prelude.{◌≡◌, ℕ, suc, ◌-◌, ◌<◌, ◌≤◌, List, [], All, if◌then◌else◌, false, nat_lt, length, slice_get, slice_index_or, Option, None}
use Rattle.eq_names.specs.declared.BitName.{BitName}
use Rattle.eq_net.specs.declared.types.NetInfo.{NetInfo}
use Rattle.eq_net.specs.declared.types.WordBit.{WordBit}
use Rattle.eq_net.specs.Meaning.{if_there, table, width}
use Rattle.eq_net.specs.Net.{HasBit, offset, word_at}
use Rattle.eq_net.specs.Operators.{has_free_sizes}
use Rattle.eq_net.specs.Tree.{Tree, const, read, pick, negated, opposite, binary, reduced, choice, empty, joined, extended}
use Rattle.eq_marks.specs.declared.marks.Way.{Way}
use Rattle.eq_marks.specs.inner.Marks.{Marks, mixed, mixed_all, one_mark, extended_marks, operated}

-- the mark at a place, none where there is no such place
abbrev pub mark_of : List (Option ℕ) → ℕ → Option ℕ
mark_of marks b = slice_index_or marks b None

abbrev pub rows_mark : List (List (Option ℕ)) → ℕ → ℕ → Option ℕ
rows_mark rows w j = mark_of (slice_index_or rows w []) j

-- the marks of a word, where `named` has those of named bits, and `earlier` those of the bits of earlier words
abbrev pub carried : Way → (BitName → Option ℕ) → (ℕ → ℕ → Option ℕ) → Tree → Marks
carried way named earlier (const bits) j = None
carried way named earlier (read names) j = if_there None named (slice_get names j)
carried way named earlier (pick bits) j = if_there None (λ (b : WordBit). earlier b.word b.bit) (slice_get bits j)
carried way named earlier (negated a) j = mixed way (carried way named earlier a j) None
carried way named earlier (opposite a) j = mixed_all way (suc j) (carried way named earlier a)
carried way named earlier (binary o a b) j = operated way o (width a) (width b) (carried way named earlier a) (carried
    way named earlier b) j
carried way named earlier (reduced o a) j = one_mark (mixed_all way (width a) (carried way named earlier a)) j
carried way named earlier (choice c a b) j = mixed way (mixed way (carried way named earlier a j) (carried way named
    earlier b j)) (mixed_all way (width c) (carried way named earlier c))
carried way named earlier empty j = None
carried way named earlier (joined a b) j = if nat_lt j (width b) then carried way named earlier b j else carried way
    named earlier a (j - width b)
carried way named earlier (extended a n) j = extended_marks (width a) (carried way named earlier a) j

-- what a word names is there, and the sizes of its operands agree
abbrev pub IsFitting : List NetInfo → Tree → Type 0
IsFitting nets (const bits) = Unit {0}
IsFitting nets (read names) = All (HasBit nets) names
IsFitting nets (pick bits) = Unit {0}
IsFitting nets (negated a) = IsFitting nets a
IsFitting nets (opposite a) = IsFitting nets a
IsFitting nets (binary o a b) = IsFitting nets a × IsFitting nets b × (has_free_sizes o ≡ false → width a ≡ width b)
IsFitting nets (reduced o a) = IsFitting nets a
IsFitting nets (choice c a b) = IsFitting nets c × IsFitting nets a × IsFitting nets b × (width a ≡ width b)
IsFitting nets empty = Unit {0}
IsFitting nets (joined a b) = IsFitting nets a × IsFitting nets b
IsFitting nets (extended a n) = IsFitting nets a × (width a ≤ n)

-- the list says where each net's bits begin
pub record BeginAt (nets : List NetInfo) (starts : List ℕ) : Type 0 where
  pub count : length starts ≡ length nets
  pub each : (k : ℕ) → k < length nets → slice_index_or starts k 0 ≡ offset nets k

-- the rows have the marks of the first n words
pub record HasRows (way : Way) (named : BitName → Option ℕ) (words : List Tree) (n : ℕ) (rows : List (List (Option ℕ)))
    : Type 0 where
  pub count : length rows ≡ n
  pub each : (w j : ℕ) → w < n → j < width (word_at words w) → rows_mark rows w j ≡ table None (carried way named)
      words n w j
