-- What is asked of the expressions and targets of an item, in the order of the text.
use Rattle.std.proofs.Common.{◌≡◌, List, [], ◌∷◌, ◌++◌, Option, Some, None, map, refl, sym, ap, ap₂, ◌∙◌}
use Rattle.std.specs.Prelude.{flat_map, option_map}
use Rattle.std.specs.List.{cons_option}
use Rattle.std.specs.Option.{option_or}
use Rattle.eq_vparse.specs.declared.tree.Expr.{Expr}
use Rattle.eq_vparse.specs.declared.tree.Named.{Named}
use Rattle.eq_vparse.specs.declared.tree.Conns.TheVariants as conns
use Rattle.eq_verilog.specs.Trees.{Name, ExprTree, const, net, bit, part, empty, joined, repeated, unary, binary, choice, StmtTree, idle, set, sequence, branch, ModuleTree, expr_tree, connection_list}
use Rattle.eq_verilog.specs.Declarations.{Whole, expression, target, names_in, names_of_whole, wholes_of_stmt, connected_exprs}
use Rattle.eq_verilog.specs.Firsts.{first_found}
use Rattle.eq_analysis.specs.declared.mentions.Question.{Question}
use Rattle.eq_analysis.specs.declared.mentions.Question.TheVariants.{IsDeclared}
use Rattle.eq_analysis.specs.inner.Mentioning.{answer, maybe_answer, stmt_answer, first_name, undeclared}
use Rattle.eq_analysis.proofs.FirstLemmas.{found_joined, or_none, or_assoc}

-- the first of an expression's names
pub name_first : (f : Name → Option Name) (e : ExprTree) → first_name f e ≡ first_found f (names_in e)
name_first f (const c) = refl
name_first f (net n) = sym (or_none (f n))
name_first f (bit n i) = sym (or_none (f n))
name_first f (part n l r) = sym (or_none (f n))
name_first f empty = refl
name_first f (joined a b) =
    ap₂ (λ (x y : Option Name). option_or x y) (name_first f a) (name_first f b)
    ∙ sym (found_joined f (names_in a) (names_in b))
name_first f (repeated n a) = name_first f a
name_first f (unary op a) = name_first f a
name_first f (binary op a b) =
    ap₂ (λ (x y : Option Name). option_or x y) (name_first f a) (name_first f b)
    ∙ sym (found_joined f (names_in a) (names_in b))
name_first f (choice c a b) =
    or_assoc (first_name f c) (first_name f a) (first_name f b)
    ∙ ap₂ (λ (x y : Option Name). option_or x y)
    (ap₂ (λ (x y : Option Name). option_or x y) (name_first f c) (name_first f a)
    ∙ sym (found_joined f (names_in c) (names_in a)))
    (name_first f b)
    ∙ sym (found_joined f (names_in c ++ names_in a) (names_in b))

-- the first answer in a statement
pub stmt_found : (f : Whole → Option Name) (s : StmtTree) → stmt_answer f s ≡ first_found f (wholes_of_stmt s)
stmt_found f idle = refl
stmt_found f (set t e) = ap (λ (o : Option Name). option_or (f (target t)) o) (sym (or_none (f (expression e))))
stmt_found f (sequence a b) =
    ap₂ (λ (x y : Option Name). option_or x y) (stmt_found f a) (stmt_found f b)
    ∙ sym (found_joined f (wholes_of_stmt a) (wholes_of_stmt b))
stmt_found f (branch c a b) =
    ap (λ (o : Option Name). option_or (f (expression c)) o)
    (ap₂ (λ (x y : Option Name). option_or x y) (stmt_found f a) (stmt_found f b)
    ∙ sym (found_joined f (wholes_of_stmt a) (wholes_of_stmt b)))

answer_names : (m : ModuleTree) (w : Whole) →
    answer IsDeclared m w ≡ first_found (undeclared m) (names_of_whole w)
answer_names m (expression e) = name_first (undeclared m) e
answer_names m (target t) = name_first (undeclared m) t

-- the first name that isn't declared, whole by whole
pub names_found : (m : ModuleTree) (ws : List Whole) →
    first_found (answer IsDeclared m) ws ≡ first_found (undeclared m) (flat_map names_of_whole ws)
names_found m [] = refl
names_found m (w ∷ ws) =
    ap₂ (λ (x y : Option Name). option_or x y) (answer_names m w) (names_found m ws)
    ∙ sym (found_joined (undeclared m) (names_of_whole w) (flat_map names_of_whole ws))

pub by_order_found : (q : Question) (m : ModuleTree) (es : List (Option Expr)) → first_found (maybe_answer q m) es
    ≡ first_found (answer q m) (map expression (connected_exprs (connection_list (conns.ByOrder es))))
by_order_found q m [] = refl
by_order_found q m (None ∷ es) = by_order_found q m es
by_order_found q m (Some e ∷ es) = ap (λ o. option_or (answer q m (expression (expr_tree e))) o) (by_order_found q m es)

one_found : (q : Question) (m : ModuleTree) (o : Option Expr) (rest : List ExprTree) →
    option_or (maybe_answer q m o) (first_found (answer q m) (map expression rest))
    ≡ first_found (answer q m) (map expression (cons_option (option_map expr_tree o) rest))
one_found q m None rest = refl
one_found q m (Some e) rest = refl

pub by_name_found : (q : Question) (m : ModuleTree) (ns : List Named) →
    first_found (λ n. maybe_answer q m n.expr) ns
    ≡ first_found (answer q m) (map expression (connected_exprs (connection_list (conns.ByName ns))))
by_name_found q m [] = refl
by_name_found q m (n ∷ ns) =
    ap (λ o. option_or (maybe_answer q m n.expr) o) (by_name_found q m ns)
    ∙ one_found q m n.expr (connected_exprs (connection_list (conns.ByName ns)))
