use Rattle.std.proofs.Common.{map, take}
use Rattle.std.specs.Prelude.{flat_map, sum_by}
use Rattle.eq_net.specs.Tree.{trees_of}
use Rattle.eq_verilog.specs.Trees.{item_tree}
use Rattle.eq_analysis.specs.Finding.{scope_of}
use Rattle.eq_flatten.specs.Equating.{AddsEquations}
use Rattle.eq_flatten.specs.Items.{own_cost, own_equations}
use Rattle.eq_flatten.proofs.items.add_module.Given as goal

abbrev pub invariant-loop-item : goal.invariant-loop-item
invariant-loop-item l =
    AddsEquations l.nets (trees_of l.fn.words) (trees_of l.words) l.fn.slots l.slots
    (flat_map (own_equations (scope_of l.nets l.names l.from)) (map item_tree (take l.item-index l.items)))
    (sum_by (own_cost (scope_of l.nets l.names l.from)) (map item_tree (take l.item-index l.items)))
