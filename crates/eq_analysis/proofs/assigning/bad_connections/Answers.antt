use Rattle.std.proofs.Common.{◌≡◌, List, Option, IfOk, map, sym, ap, subst, ◌∙◌}
use Rattle.std.specs.Prelude.{option_copied, option_map}
use Rattle.eq_vparse.specs.declared.tree.Conns.{Conns}
use Rattle.eq_vparse.specs.declared.tree.Expr.{Expr}
use Rattle.eq_vparse.specs.declared.tree.Named.{Named}
use Rattle.eq_verilog.specs.Trees.{Name, connection_list, expr_tree, named_tree}
use Rattle.eq_verilog.specs.Equations.{connections_of}
use Rattle.eq_verilog.specs.Firsts.{first_found}
use Rattle.eq_verilog.specs.TargetRefusals.{bad_connected}
use Rattle.eq_analysis.specs.Tabling.{tree_at}
use Rattle.eq_analysis.specs.inner.Assigning.{named_bad, ordered_bad}
use Rattle.eq_analysis.proofs.AssignLemmas.{named_found, ordered_found}
use Rattle.eq_analysis.proofs.assigning.bad_connections.Goals as goal

pub returns-in-ByOrder : goal.returns-in-ByOrder
returns-in-ByOrder c =
    let m = tree_at c.args.table.now in
    let i = tree_at c.args.inside.now in
    subst (λ (o : Option Name). IfOk c.bad_in_order.result (λ found. option_copied found ≡ o))
    (ap (λ (es : List (Option Expr)).
    ordered_bad m i c.as_slice-ports.result.now (map (λ x. option_map expr_tree x) es))
    c.as_slice.ensures
    ∙ ap (λ (ns : List Name). ordered_bad m i ns (map (λ x. option_map expr_tree x) c.in-ByOrder.all))
    c.as_slice-ports.ensures
    ∙ ordered_found m i (map (λ x. option_map expr_tree x) c.in-ByOrder.all)
    ∙ ap (λ (k : Conns). first_found (bad_connected m i) (connections_of i (connection_list k)))
    (sym c.in-ByOrder.is))
    c.bad_in_order.ensures

pub returns-in-ByName : goal.returns-in-ByName
returns-in-ByName c =
    let m = tree_at c.args.table.now in
    let i = tree_at c.args.inside.now in
    subst (λ (o : Option Name). IfOk c.bad_by_name.result (λ found. option_copied found ≡ o))
    (ap (λ (ns : List Named). first_found (named_bad m i) (map named_tree ns)) c.as_slice-in-ByName.ensures
    ∙ named_found m i (map named_tree c.in-ByName.all)
    ∙ ap (λ (k : Conns). first_found (bad_connected m i) (connections_of i (connection_list k)))
    (sym c.in-ByName.is))
    c.bad_by_name.ensures
