use Rattle.std.proofs.Common.{◌≡◌, drop}
use Rattle.eq_verilog.specs.Trees.{module_tree}
use Rattle.eq_verilog.specs.Firsts.{first_found}
use Rattle.eq_analysis.specs.inner.Mentioning.{undirected}
use Rattle.eq_analysis.proofs.mentions.undirected_port.Given as goal

abbrev pub invariant-loop-port : goal.invariant-loop-port
invariant-loop-port l =
    first_found (undirected (module_tree l.table.within.now)) l.ports
    ≡ first_found (undirected (module_tree l.table.within.now)) (drop l.port-index l.ports)
