use Rattle.std.proofs.Common.{◌≡◌}
use Rattle.measure_netlist.specs.Nested.{places}
use Rattle.measure_netlist.proofs.netlist.places.Given as goal

abbrev pub invariant-loop-bit : goal.invariant-loop-bit
invariant-loop-bit l = l.names ≡ places l.net l.bit
