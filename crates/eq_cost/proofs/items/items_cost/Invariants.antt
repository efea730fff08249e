use Rattle.eq_verilog.specs.Trees.{item_tree}
use Rattle.eq_verilog.specs.Nets.{module_scope}
use Rattle.eq_verilog.specs.Costs.{item_cost}
use Rattle.eq_analysis.specs.Tabling.{tree_at, trees_at}
use Rattle.eq_cost.proofs.Running.{IsRunning}
use Rattle.eq_cost.proofs.items.items_cost.Given as goal

abbrev pub invariant-loop-item : goal.invariant-loop-item
invariant-loop-item l =
    IsRunning (λ i. item_cost (trees_at l.tables) (module_scope (tree_at l.table)) (item_tree i)) l.items l.item-index
    l.total
