use Rattle.std.proofs.Common.{◌≡◌, ◌++◌}
use Rattle.measure_netlist.specs.Nested.{driven}
use Rattle.measure_netlist.proofs.netlist.push_driven.Given as goal

abbrev pub invariant-loop-bit : goal.invariant-loop-bit
invariant-loop-bit l = l.out ≡ l.fn.out ++ driven l.bit
