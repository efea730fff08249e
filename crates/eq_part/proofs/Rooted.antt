-- Marks of the nodes that a walk begins at.
use Rattle.std.proofs.Common.{◌≡◌, ℕ, ◌<◌, List, Bool, true}
use Rattle.eq_net.specs.Net.{Parts}
use Rattle.eq_match.specs.declared.types.Pair.{Pair}
use Rattle.eq_match.specs.Groups.{is_held}
use Rattle.eq_part.specs.inner.Visits.{part_node}

-- one of the first k positions is held and hit, and its partition has the node
pub record RootBelow (gold : Parts) (pairs : List Pair) (leaders : List ℕ) (hits : ℕ → Bool) (k x : ℕ) : Type 0 where
  pub output : ℕ
  pub before : output < k
  pub held : is_held pairs output ≡ true
  pub hit : hits output ≡ true
  pub is : x ≡ part_node gold leaders output
