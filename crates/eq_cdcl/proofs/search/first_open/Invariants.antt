use Rattle.eq_cdcl.specs.inner.Halting.{AllHaveValues}
use Rattle.eq_cdcl.proofs.search.first_open.Given as goal

abbrev pub invariant-loop-before : goal.invariant-loop-before
invariant-loop-before l = AllHaveValues l.before l.trail.lits
