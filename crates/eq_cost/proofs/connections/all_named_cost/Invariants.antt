use Rattle.eq_verilog.specs.Trees.{named_tree}
use Rattle.eq_verilog.specs.Nets.{module_scope}
use Rattle.eq_analysis.specs.Tabling.{tree_at}
use Rattle.eq_cost.specs.inner.Connecting.{named_cost}
use Rattle.eq_cost.proofs.Running.{IsRunning}
use Rattle.eq_cost.proofs.connections.all_named_cost.Given as goal

abbrev pub invariant-loop-named : goal.invariant-loop-named
invariant-loop-named l =
    IsRunning (λ n. named_cost (module_scope (tree_at l.table)) (tree_at l.inside) (named_tree n)) l.all l.named-index
    l.total
