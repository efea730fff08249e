use Rattle.std.proofs.Common.{List, map, sym, ap, ◌∙◌}
use Rattle.std.proofs.lemmas.Result.{IfOk-weaker}
use Rattle.eq_vparse.specs.declared.tree.Expr.{Expr}
use Rattle.eq_vparse.specs.declared.tree.Item.{Item}
use Rattle.eq_verilog.specs.Trees.{expr_tree, item_tree, primitive, target_tree}
use Rattle.eq_verilog.specs.Nets.{module_scope}
use Rattle.eq_verilog.specs.Costs.{item_cost}
use Rattle.eq_analysis.specs.Tabling.{tree_at, trees_at}
use Rattle.eq_cost.specs.Counts.{told}
use Rattle.eq_cost.proofs.items.item_cost.Goals as goal

pub returns-in-Gate : goal.returns-in-Gate
returns-in-Gate c =
    let all = trees_at c.args.tables.now in
    let s = module_scope (tree_at c.args.table.now) in
    c.gate_cost.ensures all c.in-Gate.name
    ∙ ap (λ (es : List Expr). told (item_cost all s (primitive c.in-Gate.kind c.in-Gate.name (map expr_tree es))))
    c.as_slice.ensures
    ∙ ap (λ (i : Item). told (item_cost all s (item_tree i))) (sym c.in-Gate.is)

pub returns-in-Always : goal.returns-in-Always
returns-in-Always c =
    let all = trees_at c.args.tables.now in
    let s = module_scope (tree_at c.args.table.now) in
    IfOk-weaker c.always_cost.result _ _
    (λ x h. h all (target_tree c.in-Always.clock)
    ∙ ap (λ (i : Item). told (item_cost all s (item_tree i))) (sym c.in-Always.is)) c.always_cost.ensures
