use Rattle.std.proofs.Common.{◌<◌, All, length}
use Rattle.eq_blast.specs.inner.Sorting.{IsPlacing}
use Rattle.eq_blast.proofs.placing.Placing.descend.Given as goal

abbrev pub invariant-loop : goal.invariant-loop
invariant-loop l = record {
  placing : IsPlacing l.plan l.self.places.items l.self.builder l.self.left;
  stack : All (λ m. m < length l.plan) l.stack.items;
}
