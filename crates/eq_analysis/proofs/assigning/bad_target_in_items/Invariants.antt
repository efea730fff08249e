use Rattle.std.proofs.Common.{◌≡◌, drop, map}
use Rattle.eq_verilog.specs.Trees.{item_tree}
use Rattle.eq_verilog.specs.Firsts.{first_found}
use Rattle.eq_verilog.specs.TargetRefusals as targets
use Rattle.eq_analysis.specs.Tabling.{tree_at, trees_at}
use Rattle.eq_analysis.proofs.assigning.bad_target_in_items.Given as goal

abbrev pub invariant-loop-item : goal.invariant-loop-item
invariant-loop-item l =
    first_found (targets.bad_target_at (trees_at l.tables) (tree_at l.table)) (map item_tree l.items)
    ≡ first_found (targets.bad_target_at (trees_at l.tables) (tree_at l.table))
    (map item_tree (drop l.item-index l.items))
