-- The items of a module that was read of a text are spelled.
use Rattle.std.proofs.Common.{List, [], ◌∷◌, map, Option, Some, None, sym, ap, subst}
use Rattle.std.specs.List.{AllByRecursion, cons_option}
use Rattle.std.specs.Option.{option_map}
use Rattle.eq_vparse.specs.declared.tree.Conns.{Conns}
use Rattle.eq_vparse.specs.declared.tree.Conns.TheVariants.{ByOrder, ByName}
use Rattle.eq_vparse.specs.declared.tree.Expr.{Expr}
use Rattle.eq_vparse.specs.declared.tree.Item.{Item}
use Rattle.eq_vparse.specs.declared.tree.Item.TheVariants.{Decl, Assign, Gate, Instance, Always, Init}
use Rattle.eq_vparse.specs.declared.tree.Named.{Named}
use Rattle.eq_vparse.specs.declared.tree.Target.{Target}
use Rattle.eq_vparse.proofs.ExprAgain.{IsAgain}
use Rattle.eq_vparse.proofs.ItemAgain.{HasExpr, IsNamed, AreConns, IsClock, net_clock, bit_clock, IsItem}
use Rattle.eq_verilog.specs.Declarations.{expression, connected_exprs}
use Rattle.eq_verilog.specs.TargetRefusals.{is_target}
use Rattle.eq_verilog.specs.Trees.{ExprTree, expr_tree, connection_list, item_tree}
use Rattle.eq_verilog.proofs.PureTrees.{of_target_net, of_target_bit}
use Rattle.eq_flatten.specs.Spelled.{IsSpelled, IsItemSpelled}
use Rattle.eq_spelled.proofs.Expressions.{again_sizes}
use Rattle.eq_spelled.proofs.Targets.{TargetSpelled, again_target}
use Rattle.eq_spelled.proofs.Statements.{again_stmt}

abbrev pub ItemSpelled : Item → Type 0
ItemSpelled i = IsItemSpelled (item_tree i)

-- ---- lists of expressions

terms_spelled : (es : List Expr) → AllByRecursion IsAgain es → IsSpelled (map expression (map expr_tree es))
terms_spelled [] h = tt
terms_spelled (e ∷ es) h = (again_sizes e h.0, terms_spelled es h.1)

-- one expression more, where it is there
maybe_spelled : (e : Option Expr) (ts : List ExprTree) → HasExpr e → IsSpelled (map expression ts)
    → IsSpelled (map expression (cons_option (option_map expr_tree e) ts))
maybe_spelled None ts h rest = rest
maybe_spelled (Some e) ts h rest = (again_sizes e h, rest)

abbrev ConnsSpelled : Conns → Type 0
ConnsSpelled all = IsSpelled (map expression (connected_exprs (connection_list all)))

order_spelled : (es : List (Option Expr)) → AllByRecursion HasExpr es → ConnsSpelled (ByOrder es)
order_spelled [] h = tt
order_spelled (e ∷ es) h =
    maybe_spelled e (connected_exprs (connection_list (ByOrder es))) h.0 (order_spelled es h.1)

names_spelled : (ns : List Named) → AllByRecursion IsNamed ns → ConnsSpelled (ByName ns)
names_spelled [] h = tt
names_spelled (n ∷ ns) h =
    maybe_spelled n.expr (connected_exprs (connection_list (ByName ns))) h.0.expr (names_spelled ns h.1)

conns_spelled : (all : Conns) → AreConns all → ConnsSpelled all
conns_spelled (ByOrder es) h =
    order_spelled es (subst (AllByRecursion HasExpr) (sym h.some.is) (h.some.first_has, h.some.rest_have))
conns_spelled (ByName ns) h = names_spelled ns h

-- ---- items

clock_target : (c : Target) → IsClock c → TargetSpelled c
clock_target _ (net_clock n h) = ap is_target (of_target_net n)
clock_target _ (bit_clock n d h small) = ap is_target (of_target_bit n d)

-- an item that is read again as it is written
pub item_spelled : (i : Item) → IsItem i → ItemSpelled i
item_spelled (Decl k r n) h = tt
item_spelled (Assign t e) h = (again_target h.0.0 t h.0.1, again_sizes e h.1)
item_spelled (Gate k n terms) h =
    terms_spelled terms (subst (AllByRecursion IsAgain) (sym h.1.is) (h.1.first_has, h.1.rest_have))
item_spelled (Instance m n all) h = conns_spelled all h.2
item_spelled (Always c s) h = (clock_target c h.0, again_stmt s h.1)
item_spelled (Init t c) h = again_target h.0.0 t h.0.1
