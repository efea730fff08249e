use Rattle.std.proofs.Common.{map, take}
use Rattle.std.specs.Prelude.{flat_map, option_map, sum_by}
use Rattle.eq_net.specs.Tree.{trees_of}
use Rattle.eq_verilog.specs.Trees.{expr_tree}
use Rattle.eq_analysis.specs.Finding.{scope_of}
use Rattle.eq_analysis.specs.Tabling.{tree_at}
use Rattle.eq_flatten.specs.Equating.{AddsEquations}
use Rattle.eq_flatten.specs.Linking.{maybe_cost, maybe_equations, ordered}
use Rattle.eq_flatten.proofs.linking.add_by_order.Given as goal

abbrev pub invariant-loop-place : goal.invariant-loop-place
invariant-loop-place l =
    AddsEquations l.nets (trees_of l.fn.words) (trees_of l.words) l.fn.slots l.slots
    (flat_map (maybe_equations (scope_of l.nets l.inner l.first) (scope_of l.nets l.names l.from) (tree_at l.inside))
    (take l.place (ordered l.ports (map (option_map expr_tree) l.all))))
    (sum_by (maybe_cost (scope_of l.nets l.inner l.first) (scope_of l.nets l.names l.from) (tree_at l.inside))
    (take l.place (ordered l.ports (map (option_map expr_tree) l.all))))
