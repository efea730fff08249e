-- What the tables beside the lists of a plan say.
use Rattle.std.specs.Prelude.{◌≡◌, ◌↔◌, ℕ, Bool, true, List, [], length, Option, Some, None, slice_get, slice_index_or}
use Rattle.eq_match.specs.declared.types.Pair.{Pair}
use Rattle.eq_match.specs.Divided.{has}
use Rattle.eq_part.specs.declared.types.Partition.{Partition}

abbrev pub no_part : Partition
no_part = record { name = []; outputs = [] }

-- partition q has position i among its outputs
abbrev pub holds : List Partition → ℕ → ℕ → Bool
holds parts q i = has i (slice_index_or parts q no_part).outputs

-- of each pair the number of its bit, and of each bit its pair: one is the inverse of the other
pub record AreInverse (bits : List ℕ) (pairs : List (Option ℕ)) : Type 0 where
  pub there : (i b : ℕ) → slice_get bits i ≡ Some b → slice_get pairs b ≡ Some (Some i)
  pub back : (b i : ℕ) → slice_get pairs b ≡ Some (Some i) → slice_get bits i ≡ Some b

-- of each pair the one partition that holds it, none for the pairs of inputs
pub record AreOwners (pairs : List Pair) (parts : List Partition) (owners : List (Option ℕ)) : Type 0 where
  pub count : length owners ≡ length pairs
  pub inputs : (i : ℕ) (p : Pair) → slice_get pairs i ≡ Some p → (slice_get owners i ≡ Some None) ↔ (p.input ≡ true)
  pub owned : (i q : ℕ) → (slice_get owners i ≡ Some (Some q)) ↔ (holds parts q i ≡ true)
