use Rattle.std.proofs.Common.{◌≡◌, ◌++◌}
use Rattle.measure_netlist.specs.Nested.{inputs}
use Rattle.measure_netlist.proofs.netlist.push_inputs.Given as goal

abbrev pub invariant-loop : goal.invariant-loop
invariant-loop l = l.out ≡ l.fn.out ++ inputs l.counter
