use Rattle.std.proofs.Common.{◌≡◌, drop, map}
use Rattle.std.specs.List.{list_all}
use Rattle.eq_verilog.specs.Trees.{NamedConnection, named_tree}
use Rattle.eq_verilog.specs.Declarations.{has}
use Rattle.eq_analysis.specs.Tabling.{tree_at}
use Rattle.eq_analysis.proofs.connections.are_ports.Given as goal

abbrev pub invariant-loop-named : goal.invariant-loop-named
invariant-loop-named l =
    list_all (λ (n : NamedConnection). has (tree_at l.inside).ports n.port) (map named_tree l.all)
    ≡ list_all (λ (n : NamedConnection). has (tree_at l.inside).ports n.port)
    (map named_tree (drop l.named-index l.all))
