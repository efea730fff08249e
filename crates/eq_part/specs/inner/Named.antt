-- Cited by proofs alone; nothing here has to be believed.
-- Partitions with their names, one by one.
use Rattle.std.specs.Prelude.{◌≡◌, ℕ, ◌<◌, List, ◌∷◌, All, length}
use Rattle.eq_net.specs.Net.{Parts}
use Rattle.eq_match.specs.declared.types.Pair.{Pair}
use Rattle.eq_part.specs.Partitions.{Division, IsNameOf}
use Rattle.eq_part.specs.declared.types.Partition.{Partition}

-- the partition has the name of its first output
abbrev pub IsNamed : Parts → List Pair → Division → Partition → Type 0
IsNamed gold pairs d p = (i : ℕ) (more : List ℕ) → p.outputs ≡ i ∷ more → IsNameOf gold pairs d i p.name

-- a list of positions, at least one
pub record IsList (n : ℕ) (list : List ℕ) : Type 0 where
  pub some : 0 < length list
  pub inside : All (λ i. i < n) list
