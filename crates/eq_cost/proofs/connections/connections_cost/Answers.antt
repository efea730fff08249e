use Rattle.std.proofs.Common.{List, Option, map, sym, ap, ◌∙◌}
use Rattle.std.specs.Prelude.{option_map, sum_by}
use Rattle.eq_vparse.specs.declared.tree.Conns.{Conns}
use Rattle.eq_vparse.specs.declared.tree.Expr.{Expr}
use Rattle.eq_vparse.specs.declared.tree.Named.{Named}
use Rattle.eq_verilog.specs.Trees.{Name, connection_list, expr_tree, named_tree}
use Rattle.eq_verilog.specs.Nets.{module_scope}
use Rattle.eq_verilog.specs.Equations.{connections_of}
use Rattle.eq_verilog.specs.Costs.{connection_cost}
use Rattle.eq_analysis.specs.Tabling.{tree_at}
use Rattle.eq_cost.specs.Counts.{told}
use Rattle.eq_cost.specs.inner.Connecting.{named_cost, ordered_cost}
use Rattle.eq_cost.proofs.ConnectionLemmas.{named_sum, ordered_sum}
use Rattle.eq_cost.proofs.connections.connections_cost.Goals as goal

pub returns-in-ByOrder : goal.returns-in-ByOrder
returns-in-ByOrder c =
    let s = module_scope (tree_at c.args.table.now) in
    let i = tree_at c.args.inside.now in
    c.ordered_cost.ensures
    ∙ ap (λ (es : List (Option Expr)).
    told (ordered_cost s i c.as_slice.result.now (map (λ x. option_map expr_tree x) es)))
    c.as_slice-in-ByOrder.ensures
    ∙ ap (λ (ns : List Name). told (ordered_cost s i ns (map (λ x. option_map expr_tree x) c.in-ByOrder.all)))
    c.as_slice.ensures
    ∙ ap (λ k. told k) (ordered_sum s i (map (λ x. option_map expr_tree x) c.in-ByOrder.all))
    ∙ ap (λ (k : Conns). told (sum_by (connection_cost s i) (connections_of i (connection_list k))))
    (sym c.in-ByOrder.is)

pub returns-in-ByName : goal.returns-in-ByName
returns-in-ByName c =
    let s = module_scope (tree_at c.args.table.now) in
    let i = tree_at c.args.inside.now in
    c.all_named_cost.ensures
    ∙ ap (λ (ns : List Named). told (sum_by (named_cost s i) (map named_tree ns))) c.as_slice-in-ByName.ensures
    ∙ ap (λ k. told k) (named_sum s i (map named_tree c.in-ByName.all))
    ∙ ap (λ (k : Conns). told (sum_by (connection_cost s i) (connections_of i (connection_list k))))
    (sym c.in-ByName.is)
