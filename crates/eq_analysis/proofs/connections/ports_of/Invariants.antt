use Rattle.std.proofs.Common.{◌≡◌, take, map}
use Rattle.eq_verilog.specs.Trees.{NamedConnection, named_tree}
use Rattle.eq_analysis.proofs.connections.ports_of.Given as goal

abbrev pub invariant-loop-named : goal.invariant-loop-named
invariant-loop-named l =
    map (λ n. n.now) l.ports.items
    ≡ map (λ (n : NamedConnection). n.port) (map named_tree (take l.named-index l.all))
