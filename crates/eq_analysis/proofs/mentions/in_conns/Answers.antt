use Rattle.std.proofs.Common.{List, Option, map, sym, ap, ◌∙◌}
use Rattle.eq_vparse.specs.declared.tree.Expr.{Expr}
use Rattle.eq_vparse.specs.declared.tree.Named.{Named}
use Rattle.eq_vparse.specs.declared.tree.Conns.{Conns}
use Rattle.eq_verilog.specs.Trees.{module_tree, connection_list}
use Rattle.eq_verilog.specs.Declarations.{expression, connected_exprs}
use Rattle.eq_verilog.specs.Firsts.{first_found}
use Rattle.eq_analysis.specs.inner.Mentioning.{answer, maybe_answer}
use Rattle.eq_analysis.proofs.MentionLemmas.{by_order_found, by_name_found}
use Rattle.eq_analysis.proofs.mentions.in_conns.Goals as goal

pub returns-in-ByOrder : goal.returns-in-ByOrder
returns-in-ByOrder c =
    let m = module_tree c.args.table.now.within.now in
    c.in_maybes.ensures
    ∙ ap (λ (es : List (Option Expr)). first_found (maybe_answer c.args.question m) es) c.as_slice.ensures
    ∙ by_order_found c.args.question m c.in-ByOrder.all
    ∙ ap (λ (k : Conns). first_found (answer c.args.question m) (map expression (connected_exprs (connection_list k))))
    (sym c.in-ByOrder.is)

pub returns-in-ByName : goal.returns-in-ByName
returns-in-ByName c =
    let m = module_tree c.args.table.now.within.now in
    c.in_named.ensures
    ∙ ap (λ (ns : List Named). first_found (λ n. maybe_answer c.args.question m n.expr) ns) c.as_slice-in-ByName.ensures
    ∙ by_name_found c.args.question m c.in-ByName.all
    ∙ ap (λ (k : Conns). first_found (answer c.args.question m) (map expression (connected_exprs (connection_list k))))
    (sym c.in-ByName.is)
