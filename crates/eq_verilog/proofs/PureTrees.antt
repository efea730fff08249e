-- The tree of each form of a tree of a text: the equations of the three folds.
use Rattle.std.proofs.Common.{◌≡◌, ℕ, List, map, Some, None, sym, ap, ◌∙◌}
use Rattle.eq_vlex.specs.declared.token.Constant.{Constant}
use Rattle.eq_vparse.specs.declared.tree.UnOp.{UnOp}
use Rattle.eq_vparse.specs.declared.tree.BinOp.{BinOp}
use Rattle.eq_vparse.specs.declared.tree.Expr.{Expr}
use Rattle.eq_vparse.specs.declared.tree.Expr.TheVariants.{Const, Net, Bit, Part, rolls-Const, rolls-Net, rolls-Bit, rolls-Part, rolls-Concat, rolls-Repeat, rolls-Unary, rolls-Binary, rolls-Cond}
use Rattle.eq_vparse.specs.declared.tree.Expr.TheViews.{Concat, Repeat, Unary, Binary, Cond}
use Rattle.eq_vparse.specs.declared.tree.Expr.TheOpen.{Const as const_layer, Net as net_layer, Bit as bit_layer, Part as part_layer, Concat as concat_layer, Repeat as repeat_layer, Unary as unary_layer, Binary as binary_layer, Cond as cond_layer}
use Rattle.eq_vparse.specs.declared.tree.Expr.TheFolds.{fold-roll-Expr}
use Rattle.eq_vparse.specs.declared.tree.Target.{Target}
use Rattle.eq_vparse.specs.declared.tree.Target.TheVariants.{Net as TargetNet, Bit as TargetBit, Part as TargetPart, rolls-Net as rolls-TargetNet, rolls-Bit as rolls-TargetBit, rolls-Part as rolls-TargetPart, rolls-Concat as rolls-TargetConcat}
use Rattle.eq_vparse.specs.declared.tree.Target.TheViews.{Concat as TargetConcat}
use Rattle.eq_vparse.specs.declared.tree.Target.TheOpen.{Net as target_net_layer, Bit as target_bit_layer, Part as target_part_layer, Concat as target_concat_layer}
use Rattle.eq_vparse.specs.declared.tree.Target.TheFolds.{fold-roll-Target}
use Rattle.eq_vparse.specs.declared.tree.Stmt.{Stmt}
use Rattle.eq_vparse.specs.declared.tree.Stmt.TheVariants.{Empty, Set, rolls-Empty, rolls-Set, rolls-Block, rolls-If}
use Rattle.eq_vparse.specs.declared.tree.Stmt.TheViews.{Block, If}
use Rattle.eq_vparse.specs.declared.tree.Stmt.TheOpen.{Empty as empty_layer, Set as set_layer, Block as block_layer, If as if_layer}
use Rattle.eq_vparse.specs.declared.tree.Stmt.TheFolds.{fold-roll-Stmt}
use Rattle.eq_verilog.specs.Trees.{Name, ExprTree, const, net, bit, part, repeated, unary, binary, choice, join_all, expr_layer, expr_tree, target_layer, target_tree, StmtTree, idle, set, branch, in_sequence, stmt_layer, stmt_tree}

pub of_const : (c : Constant) → expr_tree (Const c) ≡ const c
of_const c = ap expr_tree (sym (rolls-Const c)) ∙ fold-roll-Expr ExprTree expr_layer (const_layer c)

pub of_net : (n : Name) → expr_tree (Net n) ≡ net n
of_net n = ap expr_tree (sym (rolls-Net n)) ∙ fold-roll-Expr ExprTree expr_layer (net_layer n)

pub of_bit : (n : Name) (i : ℕ) → expr_tree (Bit n i) ≡ bit n i
of_bit n i = ap expr_tree (sym (rolls-Bit n i)) ∙ fold-roll-Expr ExprTree expr_layer (bit_layer n i)

pub of_part : (n : Name) (l r : ℕ) → expr_tree (Part n l r) ≡ part n l r
of_part n l r = ap expr_tree (sym (rolls-Part n l r)) ∙ fold-roll-Expr ExprTree expr_layer (part_layer n l r)

pub of_concat : (es : List Expr) → expr_tree (Concat es) ≡ join_all (map expr_tree es)
of_concat es = ap expr_tree (sym (rolls-Concat es)) ∙ fold-roll-Expr ExprTree expr_layer (concat_layer es)

pub of_repeat : (n : ℕ) (es : List Expr) → expr_tree (Repeat n es) ≡ repeated n (join_all (map expr_tree es))
of_repeat n es = ap expr_tree (sym (rolls-Repeat n es)) ∙ fold-roll-Expr ExprTree expr_layer (repeat_layer n es)

pub of_unary : (op : UnOp) (a : Expr) → expr_tree (Unary op a) ≡ unary op (expr_tree a)
of_unary op a = ap expr_tree (sym (rolls-Unary op a)) ∙ fold-roll-Expr ExprTree expr_layer (unary_layer op a)

pub of_binary : (op : BinOp) (a b : Expr) → expr_tree (Binary op a b) ≡ binary op (expr_tree a) (expr_tree b)
of_binary op a b = ap expr_tree (sym (rolls-Binary op a b)) ∙ fold-roll-Expr ExprTree expr_layer (binary_layer op a b)

pub of_choice : (c a b : Expr) → expr_tree (Cond c a b) ≡ choice (expr_tree c) (expr_tree a) (expr_tree b)
of_choice c a b = ap expr_tree (sym (rolls-Cond c a b)) ∙ fold-roll-Expr ExprTree expr_layer (cond_layer c a b)

pub of_target_net : (n : Name) → target_tree (TargetNet n) ≡ net n
of_target_net n = ap target_tree (sym (rolls-TargetNet n)) ∙ fold-roll-Target ExprTree target_layer (target_net_layer n)

pub of_target_bit : (n : Name) (i : ℕ) → target_tree (TargetBit n i) ≡ bit n i
of_target_bit n i =
    ap target_tree (sym (rolls-TargetBit n i)) ∙ fold-roll-Target ExprTree target_layer (target_bit_layer n i)

pub of_target_part : (n : Name) (l r : ℕ) → target_tree (TargetPart n l r) ≡ part n l r
of_target_part n l r =
    ap target_tree (sym (rolls-TargetPart n l r)) ∙ fold-roll-Target ExprTree target_layer (target_part_layer n l r)

pub of_target_concat : (ts : List Target) → target_tree (TargetConcat ts) ≡ join_all (map target_tree ts)
of_target_concat ts =
    ap target_tree (sym (rolls-TargetConcat ts)) ∙ fold-roll-Target ExprTree target_layer (target_concat_layer ts)

pub of_empty : stmt_tree Empty ≡ idle
of_empty = ap stmt_tree (sym rolls-Empty) ∙ fold-roll-Stmt StmtTree stmt_layer empty_layer

pub of_set : (t : Target) (e : Expr) → stmt_tree (Set t e) ≡ set (target_tree t) (expr_tree e)
of_set t e = ap stmt_tree (sym (rolls-Set t e)) ∙ fold-roll-Stmt StmtTree stmt_layer (set_layer t e)

pub of_block : (ss : List Stmt) → stmt_tree (Block ss) ≡ in_sequence (map stmt_tree ss)
of_block ss = ap stmt_tree (sym (rolls-Block ss)) ∙ fold-roll-Stmt StmtTree stmt_layer (block_layer ss)

pub of_if : (c : Expr) (a : Stmt) → stmt_tree (If c a None) ≡ branch (expr_tree c) (stmt_tree a) idle
of_if c a = ap stmt_tree (sym (rolls-If c a None)) ∙ fold-roll-Stmt StmtTree stmt_layer (if_layer c a None)

pub of_if_else : (c : Expr) (a b : Stmt) →
    stmt_tree (If c a (Some b)) ≡ branch (expr_tree c) (stmt_tree a) (stmt_tree b)
of_if_else c a b =
    ap stmt_tree (sym (rolls-If c a (Some b))) ∙ fold-roll-Stmt StmtTree stmt_layer (if_layer c a (Some b))
