use Rattle.eq_cone.specs.inner.Marks.{Marked}
use Rattle.eq_cone.proofs.paired.mark.Given as goal

abbrev pub invariant-loop-i : goal.invariant-loop-i
invariant-loop-i l = Marked l.fn.from l.fn.own l.fn.bits l.i l.fn.paired l.paired
