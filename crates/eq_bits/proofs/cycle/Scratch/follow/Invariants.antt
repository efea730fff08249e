use Rattle.std.proofs.Common.{◌≡◌, length}
use Rattle.eq_model.specs.Frames.{values}
use Rattle.eq_bits.specs.Cycle.{values_after}
use Rattle.eq_bits.specs.inner.Computing.{HasComputed}
use Rattle.eq_bits.proofs.cycle.Scratch.follow.Given as goal

abbrev pub invariant-loop-m : goal.invariant-loop-m
invariant-loop-m l = record {
  size : length l.self-inside.values.items ≡ length l.nodes;
  before : length l.self-inside.before.items ≡ length l.nodes;
  old : l.self-inside.before.items ≡ l.fn.self;
  computed : HasComputed l.nodes (values_after l.nodes (values l.fn.self) l.inputs) l.m l.self-inside.values.items;
}
