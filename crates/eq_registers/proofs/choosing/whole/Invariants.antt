use Rattle.eq_registers.specs.inner.Choosing.{IsWhole}
use Rattle.eq_registers.proofs.choosing.whole.Given as goal

abbrev pub invariant-loop-bit : goal.invariant-loop-bit
invariant-loop-bit l = IsWhole l.word l.bits l.bit
