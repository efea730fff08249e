use Rattle.eq_induct.specs.inner.Trying.{HasTried}
use Rattle.eq_induct.proofs.deciding.decide.Given as goal

abbrev pub invariant-loop-n : goal.invariant-loop-n
invariant-loop-n l = HasTried l.part l.s l.n l.decided
