use Rattle.eq_blast.specs.inner.Sorting.{AreLinked, IsPlacing}
use Rattle.eq_blast.proofs.placing.Placing.link_all.Given as goal

abbrev pub invariant-loop-m : goal.invariant-loop-m
invariant-loop-m l = record {
  placing : IsPlacing l.plan l.self.places.items l.self.builder 0;
  linked : AreLinked l.plan l.self.places.items l.self.builder l.m;
}
