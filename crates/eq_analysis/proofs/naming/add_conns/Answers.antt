use Rattle.std.proofs.Common.{◌≡◌, List, [], Option, map, OnOk, sym, ap, subst, ◌∙◌}
use Rattle.std.specs.Prelude.{flat_map, option_map}
use Rattle.eq_net.specs.Meaning.{if_there}
use Rattle.eq_vparse.specs.declared.tree.Expr.{Expr}
use Rattle.eq_vparse.specs.declared.tree.Named.{Named}
use Rattle.eq_vparse.specs.declared.tree.Conns.{Conns}
use Rattle.eq_verilog.specs.Trees.{Name, expr_tree, connection_list}
use Rattle.eq_verilog.specs.Declarations.{names_in, expression, names_of_whole, connected_exprs}
use Rattle.eq_analysis.specs.Naming.{with_names}
use Rattle.eq_analysis.proofs.NamingLemmas.{by_order_names, by_name_names}
use Rattle.eq_analysis.proofs.naming.add_conns.Goals as goal

pub returns-in-ByOrder : goal.returns-in-ByOrder
returns-in-ByOrder c =
    subst (λ (ns : List Name). OnOk c.add_maybes.result (c.add_maybes.new.found.table ≡ with_names c.args.found.now.table ns))
    (ap (λ (es : List (Option Expr)). flat_map (λ e. if_there [] names_in (option_map expr_tree e))
    es) c.as_slice.ensures
    ∙ by_order_names c.in-ByOrder.all
    ∙ ap (λ (k : Conns). flat_map names_of_whole (map expression (connected_exprs (connection_list k))))
    (sym c.in-ByOrder.is))
    c.add_maybes.ensures

pub returns-in-ByName : goal.returns-in-ByName
returns-in-ByName c =
    subst (λ (ns : List Name). OnOk c.add_named.result (c.add_named.new.found.table ≡ with_names c.args.found.now.table ns))
    (ap (λ (all : List Named). flat_map (λ n. if_there [] names_in (option_map expr_tree n.expr)) all)
    c.as_slice-in-ByName.ensures
    ∙ by_name_names c.in-ByName.all
    ∙ ap (λ (k : Conns). flat_map names_of_whole (map expression (connected_exprs (connection_list k))))
    (sym c.in-ByName.is))
    c.add_named.ensures
