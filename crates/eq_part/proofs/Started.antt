-- What is reached from the marks of roots is walked to from roots.
use Rattle.std.proofs.Common.{◌≡◌, ℕ, List, Bool, true}
use Rattle.eq_model.specs.Frames.{values}
use Rattle.eq_net.specs.Net.{Parts}
use Rattle.eq_match.specs.declared.types.Pair.{Pair}
use Rattle.eq_reads.specs.declared.graph.Edge.{Edge}
use Rattle.eq_part.specs.inner.Graph.{IsReached}
use Rattle.eq_part.specs.inner.Visits.{IsRoot, IsWalked}

module _ (gold : Parts) (pairs : List Pair) (leaders : List ℕ) (hits : ℕ → Bool) (edges : List Edge) (roots : List Bool) where
  pub reached_walked : ((y : ℕ) → values roots y ≡ true → IsRoot gold pairs leaders hits y) → (x : ℕ) → IsReached edges roots x → IsWalked gold pairs leaders hits edges x
  reached_walked told x r = record { root = r.root; root_is = told r.root r.marked; steps = r.steps; chain = r.chain }

  pub walked_reached : ((y : ℕ) → IsRoot gold pairs leaders hits y → values roots y ≡ true) → (x : ℕ) → IsWalked gold pairs leaders hits edges x → IsReached edges roots x
  walked_reached told x w = record { root = w.root; marked = told w.root w.root_is; steps = w.steps; chain = w.chain }
