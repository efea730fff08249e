use Rattle.eq_unroll.specs.inner.Witnessing.{HasFrames}
use Rattle.eq_unroll.proofs.witness.inputs.Given as goal

abbrev pub invariant-loop-c : goal.invariant-loop-c
invariant-loop-c l = HasFrames l.part l.bits l.c l.inputs
