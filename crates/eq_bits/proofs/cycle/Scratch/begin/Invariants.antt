use Rattle.std.proofs.Common.{◌≡◌, length}
use Rattle.eq_bits.specs.Cycle.{values_with, place}
use Rattle.eq_bits.specs.inner.Computing.{HasComputed}
use Rattle.eq_bits.proofs.cycle.Scratch.begin.Given as goal

abbrev pub invariant-loop-m : goal.invariant-loop-m
invariant-loop-m l = record {
  size : length l.self-inside.values.items ≡ length l.nodes;
  before : length l.self-inside.before.items ≡ length l.nodes;
  place : l.place ≡ place l.nodes l.m;
  computed : HasComputed l.nodes (values_with l.nodes l.regs l.inputs) l.m l.self-inside.values.items;
}
