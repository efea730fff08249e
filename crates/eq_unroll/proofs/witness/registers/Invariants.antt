use Rattle.eq_model.specs.Frames.{values}
use Rattle.eq_unroll.specs.inner.Witnessing.{HasRegisters}
use Rattle.eq_unroll.proofs.witness.registers.Given as goal

abbrev pub invariant-loop-m : goal.invariant-loop-m
invariant-loop-m l = HasRegisters l.nodes (values l.bits) l.m l.regs.items
