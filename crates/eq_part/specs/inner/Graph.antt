-- Cited by proofs alone; nothing here has to be believed.
-- What chains of edges lead to.
use Rattle.std.specs.Prelude.{◌≡◌, ℕ, Bool, true, List}
use Rattle.eq_model.specs.Frames.{values}
use Rattle.eq_reads.specs.declared.graph.Edge.{Edge}
use Rattle.eq_reads.specs.Graph.{Joins}
use Rattle.eq_reads.specs.inner.Chains.{Chain}

-- a chain of edges leads from a marked node to this one
pub record IsReached (edges : List Edge) (roots : List Bool) (v : ℕ) : Type 0 where
  pub root : ℕ
  pub marked : values roots root ≡ true
  pub steps : ℕ
  pub chain : Chain (Joins edges) steps root v
