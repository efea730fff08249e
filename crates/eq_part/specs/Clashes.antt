-- When partitions can't be told apart by their names.
use Rattle.std.specs.Prelude.{◌≡◌, ℕ, ◌<◌, ◌≤◌, ◌⊎◌, List, length, slice_index_or}
use Rattle.eq_names.specs.declared.BitName.{BitName}
use Rattle.eq_match.specs.declared.types.Pair.{Pair}
use Rattle.eq_match.specs.Pairs.{pair_at}
use Rattle.eq_part.specs.declared.types.Partition.{Partition}
use Rattle.eq_part.specs.Tables.{no_part}

abbrev pub part_name : List Partition → ℕ → List ℕ
part_name parts q = (slice_index_or parts q no_part).name

-- gold's bit at the first output of partition q
abbrev pub first_bit_of : List Pair → List Partition → ℕ → BitName
first_bit_of pairs parts q = (pair_at pairs (slice_index_or (slice_index_or parts q no_part).outputs 0 0)).gold

-- partition p stands before partition q, and they have one name
pub record HaveOneName (parts : List Partition) (p q : ℕ) : Type 0 where
  pub before : p < q
  pub there : q < length parts
  pub one : part_name parts p ≡ part_name parts q

abbrev pub AreNamedApart : List Partition → Type 0
AreNamedApart parts = (p q : ℕ) → ¬ HaveOneName parts p q

-- the first two partitions of one name, in the order of the second and then of the first
pub record AreFirstOfOneName (parts : List Partition) (p q : ℕ) : Type 0 where
  pub clash : HaveOneName parts p q
  pub first : (s t : ℕ) → HaveOneName parts s t → (q < t) ⊎ ((q ≡ t) × (p ≤ s))

-- these are the bits of gold at the first outputs of the first two partitions of one name
pub record ClashAt (pairs : List Pair) (parts : List Partition) (first second : BitName) : Type 0 where
  pub p : ℕ
  pub q : ℕ
  pub are_first : AreFirstOfOneName parts p q
  pub first_is : first ≡ first_bit_of pairs parts p
  pub second_is : second ≡ first_bit_of pairs parts q
