use Rattle.eq_marks.specs.inner.Missing.{AreUndriven}
use Rattle.eq_marks.proofs.missing.undriven_marks.Given as goal

abbrev pub invariant-loop-bit : goal.invariant-loop-bit
invariant-loop-bit l = AreUndriven l.drivers l.bit l.marks.items
