use Rattle.eq_marks.specs.inner.Taking.{AreOwn}
use Rattle.eq_marks.proofs.taking.own_marks.Given as goal

abbrev pub invariant-loop-bit : goal.invariant-loop-bit
invariant-loop-bit l = AreOwn l.bit l.marks.items
