use Rattle.std.proofs.Common.{◌<◌, All, length}
use Rattle.eq_blast.specs.inner.Sorting.{IsPlacing}
use Rattle.eq_blast.proofs.placing.Placing.walk.Given as goal

abbrev pub invariant-loop-m : goal.invariant-loop-m
invariant-loop-m l = record {
  placing : IsPlacing l.plan l.self.places.items l.self.builder l.self.left;
  stack : All (λ m. m < length l.plan) l.stack.items;
}
