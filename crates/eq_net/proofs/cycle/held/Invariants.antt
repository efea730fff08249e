use Rattle.std.proofs.Common.{◌≡◌, ◌+◌, ◌++◌, drop, length}
use Rattle.eq_net.specs.Held.{held_bits, input_count, register_count}
use Rattle.eq_net.proofs.cycle.held.Given as goal

abbrev pub invariant-loop-driver : goal.invariant-loop-driver
invariant-loop-driver l = record {
  registers : l.register + register_count (drop l.driver-index l.drivers) ≡ length l.state;
  inputs : l.input + input_count (drop l.driver-index l.drivers) ≡ length l.inputs;
  done : l.held.items ++ held_bits (drop l.driver-index l.drivers) (drop l.register l.state) (drop l.input l.inputs) ≡ held_bits l.drivers l.state l.inputs;
}
