use Rattle.std.proofs.Common.{◌≡◌}
use Rattle.eq_net.specs.Tree.{tree_of}
use Rattle.measure_netlist.specs.Nested.{nested}
use Rattle.measure_netlist.proofs.netlist.nested.Given as goal

abbrev pub invariant-loop : goal.invariant-loop
invariant-loop l = tree_of l.word ≡ nested l.width l.counter
