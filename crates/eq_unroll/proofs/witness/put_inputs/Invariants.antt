use Rattle.std.proofs.Common.{◌≡◌, ◌+◌, length}
use Rattle.eq_model.specs.Frames.{values}
use Rattle.eq_unroll.specs.inner.Witnessing.{HasInputs}
use Rattle.eq_unroll.proofs.witness.put_inputs.Given as goal

abbrev pub invariant-loop-m : goal.invariant-loop-m
invariant-loop-m l = record {
  size : length l.inputs ≡ length l.initial.inputs;
  has : HasInputs l.nodes (λ m. values l.bits (l.first + m)) l.m l.inputs;
}
