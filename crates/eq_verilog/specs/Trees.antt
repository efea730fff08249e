-- Modules without their places in memory, as all definitions of elaboration see them. A target is an expression too: a
-- name, a select, or a concatenation of targets. A concatenation is built from two, its first part and the others
-- behind it; a block is its first statement and then the others; an `if` without `else` has one that does nothing.
use Rattle.std.specs.Prelude.{ℕ, List, [], ◌∷◌, ◌++◌, map, Option, Some, None}
use Rattle.std.specs.Option.{option_map}
use Rattle.eq_vlex.specs.declared.token.Constant.{Constant}
use Rattle.eq_vparse.specs.declared.tree.UnOp.{UnOp}
use Rattle.eq_vparse.specs.declared.tree.BinOp.{BinOp}
use Rattle.eq_vparse.specs.declared.tree.DeclKind.{DeclKind}
use Rattle.eq_vparse.specs.declared.tree.GateKind.{GateKind}
use Rattle.eq_vparse.specs.declared.tree.Range.{Range as SourceRange}
use Rattle.eq_vparse.specs.declared.tree.Expr.{Expr}
use Rattle.eq_vparse.specs.declared.tree.Expr.TheOpen.{Expr-F, Const, Net, Bit, Part, Concat, Repeat, Unary, Binary, Cond}
use Rattle.eq_vparse.specs.declared.tree.Expr.TheFolds.{fold-Expr}
use Rattle.eq_vparse.specs.declared.tree.Target.{Target}
use Rattle.eq_vparse.specs.declared.tree.Target.TheOpen.{Target-F, Net as TargetNet, Bit as TargetBit, Part as TargetPart, Concat as TargetConcat}
use Rattle.eq_vparse.specs.declared.tree.Target.TheFolds.{fold-Target}
use Rattle.eq_vparse.specs.declared.tree.Stmt.{Stmt}
use Rattle.eq_vparse.specs.declared.tree.Stmt.TheOpen.{Stmt-F, Empty, Set, Block, If}
use Rattle.eq_vparse.specs.declared.tree.Stmt.TheFolds.{fold-Stmt}
use Rattle.eq_vparse.specs.declared.tree.Named.{Named}
use Rattle.eq_vparse.specs.declared.tree.Conns.{Conns}
use Rattle.eq_vparse.specs.declared.tree.Conns.TheVariants.{ByOrder, ByName}
use Rattle.eq_vparse.specs.declared.tree.Item.{Item}
use Rattle.eq_vparse.specs.declared.tree.Item.TheVariants as item
use Rattle.eq_vparse.specs.declared.tree.Module.{Module}
use Rattle.eq_vparse.specs.declared.tree.Source.{Source}

-- the bytes of a name
abbrev pub Name : Type 0
Name = List ℕ

-- [left:right]
abbrev pub Range : Type 0
Range = ℕ × ℕ

pub data ExprTree : Type 0 where
  const : Constant → ExprTree
  net : Name → ExprTree
  bit : Name → ℕ → ExprTree
  part : Name → ℕ → ℕ → ExprTree
  -- `{a, b, ..}` is a joined with `{b, ..}`
  empty : ExprTree
  joined : ExprTree → ExprTree → ExprTree
  -- `{n{a}}`
  repeated : ℕ → ExprTree → ExprTree
  unary : UnOp → ExprTree → ExprTree
  binary : BinOp → ExprTree → ExprTree → ExprTree
  -- `c ? a : b`
  choice : ExprTree → ExprTree → ExprTree → ExprTree

pub data StmtTree : Type 0 where
  idle : StmtTree
  -- a target, and what it is set to
  set : ExprTree → ExprTree → StmtTree
  sequence : StmtTree → StmtTree → StmtTree
  branch : ExprTree → StmtTree → StmtTree → StmtTree

-- `.port(expr)`
pub record NamedConnection : Type 0 where
  pub port : Name
  pub expr : Option ExprTree

pub data ConnectionList : Type 0 where
  by_order : List (Option ExprTree) → ConnectionList
  by_name : List NamedConnection → ConnectionList

pub data ItemTree : Type 0 where
  declared : DeclKind → Option Range → Name → ItemTree
  assign : ExprTree → ExprTree → ItemTree
  primitive : GateKind → Option Name → List ExprTree → ItemTree
  -- the instance's module, and its own name
  instance : Name → Name → ConnectionList → ItemTree
  -- the target at whose positive edge the statement runs
  always : ExprTree → StmtTree → ItemTree
  initial : ExprTree → Constant → ItemTree

pub record ModuleTree : Type 0 where
  pub name : Name
  pub ports : List Name
  pub items : List ItemTree

-- ---- from the trees of texts

abbrev pub join_all : List ExprTree → ExprTree
join_all [] = empty
join_all (e ∷ es) = joined e (join_all es)

abbrev pub expr_layer : Expr-F ExprTree → ExprTree
expr_layer (Const c) = const c
expr_layer (Net n) = net n
expr_layer (Bit n i) = bit n i
expr_layer (Part n l r) = part n l r
expr_layer (Concat all) = join_all all
expr_layer (Repeat n all) = repeated n (join_all all)
expr_layer (Unary op a) = unary op a
expr_layer (Binary op a b) = binary op a b
expr_layer (Cond c a b) = choice c a b

abbrev pub expr_tree : Expr → ExprTree
expr_tree = fold-Expr ExprTree expr_layer

abbrev pub target_layer : Target-F ExprTree → ExprTree
target_layer (TargetNet n) = net n
target_layer (TargetBit n i) = bit n i
target_layer (TargetPart n l r) = part n l r
target_layer (TargetConcat all) = join_all all

abbrev pub target_tree : Target → ExprTree
target_tree = fold-Target ExprTree target_layer

abbrev pub in_sequence : List StmtTree → StmtTree
in_sequence [] = idle
in_sequence (s ∷ ss) = sequence s (in_sequence ss)

abbrev pub or_idle : Option StmtTree → StmtTree
or_idle None = idle
or_idle (Some s) = s

abbrev pub stmt_layer : Stmt-F StmtTree → StmtTree
stmt_layer Empty = idle
stmt_layer (Set t e) = set (target_tree t) (expr_tree e)
stmt_layer (Block all) = in_sequence all
stmt_layer (If c a b) = branch (expr_tree c) a (or_idle b)

abbrev pub stmt_tree : Stmt → StmtTree
stmt_tree = fold-Stmt StmtTree stmt_layer

abbrev pub range_pair : SourceRange → Range
range_pair r = (r.left, r.right)

abbrev pub named_tree : Named → NamedConnection
named_tree n = record { port = n.port; expr = option_map expr_tree n.expr }

abbrev pub connection_list : Conns → ConnectionList
connection_list (ByOrder all) = by_order (map (λ e. option_map expr_tree e) all)
connection_list (ByName all) = by_name (map named_tree all)

abbrev pub item_tree : Item → ItemTree
item_tree (item.Decl k r n) = declared k (option_map range_pair r) n
item_tree (item.Assign t e) = assign (target_tree t) (expr_tree e)
item_tree (item.Gate k n terms) = primitive k n (map expr_tree terms)
item_tree (item.Instance m n all) = instance m n (connection_list all)
item_tree (item.Always clock body) = always (target_tree clock) (stmt_tree body)
item_tree (item.Init t value) = initial (target_tree t) value

abbrev pub module_tree : Module → ModuleTree
module_tree m = record { name = m.name; ports = m.ports; items = map item_tree m.items }

-- the modules of all sources, in order
abbrev pub modules_of : List Source → List ModuleTree
modules_of [] = []
modules_of (s ∷ ss) = map module_tree s.modules ++ modules_of ss
