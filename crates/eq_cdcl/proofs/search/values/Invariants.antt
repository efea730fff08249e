use Rattle.std.proofs.Common.{◌≡◌, length}
use Rattle.eq_cdcl.specs.inner.Halting.{GivesValues}
use Rattle.eq_cdcl.proofs.search.values.Given as goal

abbrev pub invariant-loop-before : goal.invariant-loop-before
invariant-loop-before l = record {
  len : length l.bits ≡ l.before;
  values : GivesValues l.before l.trail.lits l.bits;
}
