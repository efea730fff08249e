use Rattle.eq_blast.specs.inner.Sorting.{IsPlacing}
use Rattle.eq_blast.proofs.placing.Placing.hold.Given as goal

abbrev pub invariant-loop-m : goal.invariant-loop-m
invariant-loop-m l = IsPlacing l.plan l.self.places.items l.self.builder l.self.left
