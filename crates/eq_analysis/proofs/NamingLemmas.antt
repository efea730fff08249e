-- The names of an instance's connections.
use Rattle.std.proofs.Common.{◌≡◌, List, [], ◌∷◌, ◌++◌, Option, Some, None, map, refl, ap, ◌∙◌}
use Rattle.std.specs.Prelude.{flat_map, option_map}
use Rattle.std.specs.List.{cons_option}
use Rattle.eq_net.specs.Meaning.{if_there}
use Rattle.eq_vparse.specs.declared.tree.Expr.{Expr}
use Rattle.eq_vparse.specs.declared.tree.Named.{Named}
use Rattle.eq_vparse.specs.declared.tree.Conns.TheVariants as conns
use Rattle.eq_verilog.specs.Trees.{Name, ExprTree, expr_tree, connection_list}
use Rattle.eq_verilog.specs.Declarations.{names_in, expression, names_of_whole, connected_exprs}

pub by_order_names : (es : List (Option Expr)) → flat_map (λ e. if_there [] names_in (option_map expr_tree e)) es
    ≡ flat_map names_of_whole (map expression (connected_exprs (connection_list (conns.ByOrder es))))
by_order_names [] = refl
by_order_names (None ∷ es) = by_order_names es
by_order_names (Some e ∷ es) = ap (λ (ns : List Name). names_in (expr_tree e) ++ ns) (by_order_names es)

one_named : (o : Option Expr) (rest : List ExprTree) →
    (if_there [] names_in (option_map expr_tree o)) ++ flat_map names_of_whole (map expression rest)
    ≡ flat_map names_of_whole (map expression (cons_option (option_map expr_tree o) rest))
one_named None rest = refl
one_named (Some e) rest = refl

pub by_name_names : (ns : List Named) → flat_map (λ n. if_there [] names_in (option_map expr_tree n.expr)) ns
    ≡ flat_map names_of_whole (map expression (connected_exprs (connection_list (conns.ByName ns))))
by_name_names [] = refl
by_name_names (n ∷ ns) =
    ap (λ (ms : List Name). (if_there [] names_in (option_map expr_tree n.expr)) ++ ms) (by_name_names ns)
    ∙ one_named n.expr (connected_exprs (connection_list (conns.ByName ns)))
