-- Cited by proofs alone; nothing here has to be believed.
-- What is asked of a word that is evaluated: what it reads is there, and the sizes of its operands agree. A bit that it picks
-- and that isn't there is 0.
use Rattle.std.specs.Prelude.{◌≡◌, ℕ, ◌<◌, ◌≤◌, List, [], Bool, All, false, length, slice_index_or}
use Rattle.eq_model.specs.Frames.{frames}
use Rattle.eq_model.specs.System.{Values}
use Rattle.eq_names.specs.declared.BitName.{BitName}
use Rattle.eq_net.specs.declared.types.NetInfo.{NetInfo}
use Rattle.eq_net.specs.Operators.{has_free_sizes}
use Rattle.eq_net.specs.Tree.{Tree, const, read, pick, negated, opposite, binary, reduced, choice, empty, joined, extended}
use Rattle.eq_net.specs.Meaning.{width, bit_of, table}
use Rattle.eq_net.specs.Net.{HasBit, offset, word_at}

abbrev pub IsSized : List NetInfo → Tree → Type 0
IsSized nets (const bits) = Unit {0}
IsSized nets (read names) = All (HasBit nets) names
IsSized nets (pick bits) = Unit {0}
IsSized nets (negated a) = IsSized nets a
IsSized nets (opposite a) = IsSized nets a
IsSized nets (binary o a b) = IsSized nets a × IsSized nets b × (has_free_sizes o ≡ false → width a ≡ width b)
IsSized nets (reduced o a) = IsSized nets a
IsSized nets (choice c a b) = IsSized nets c × IsSized nets a × IsSized nets b × (width a ≡ width b)
IsSized nets empty = Unit {0}
IsSized nets (joined a b) = IsSized nets a × IsSized nets b
IsSized nets (extended a n) = IsSized nets a × (width a ≤ n)

-- the list says where each net's bits begin
pub record AreStarts (nets : List NetInfo) (starts : List ℕ) : Type 0 where
  pub count : length starts ≡ length nets
  pub each : (k : ℕ) → k < length nets → slice_index_or starts k 0 ≡ offset nets k

-- the lists have the bits of the first n words, of which v has the values of the bits that they read
pub record HasWords (v : Values) (number : BitName → ℕ) (words : List Tree) (n : ℕ) (bits : List (List Bool)) : Type 0 where
  pub count : length bits ≡ n
  pub sizes : (w : ℕ) → w < n → length (slice_index_or bits w []) ≡ width (word_at words w)
  pub each : (w j : ℕ) → w < n → j < width (word_at words w) → frames bits w j ≡ table false (bit_of v number) words n w j
