use Rattle.eq_sequential.specs.inner.Placing.{IsPut}
use Rattle.eq_sequential.proofs.placing.put_all.Given as goal

abbrev pub invariant-loop-at : goal.invariant-loop-at
invariant-loop-at l = IsPut l.bits l.entries l.fn.slots l.slots l.at
