use Rattle.eq_blast.specs.inner.Sorting.{IsPlacing}
use Rattle.eq_blast.proofs.placing.Placing.settle.Given as goal

abbrev pub invariant-loop-self : goal.invariant-loop-self
invariant-loop-self l = IsPlacing l.plan l.self.places.items l.self.builder l.self.left

abbrev pub decreases-loop-self : goal.decreases-loop-self
decreases-loop-self l = l.self.left
