use Rattle.eq_blast.specs.inner.Sorting.{IsPassed, IsPlacing}
use Rattle.eq_blast.proofs.placing.Placing.pass.Given as goal

abbrev pub invariant-loop-m : goal.invariant-loop-m
invariant-loop-m l = record {
  placing : IsPlacing l.plan l.self.places.items l.self.builder l.self.left;
  passed : IsPassed l.plan l.fn.self.places.items l.self.places.items l.fn.self.left l.self.left l.m;
}
