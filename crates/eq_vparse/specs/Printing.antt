-- How a tree is written: the tokens of its parts from left to right, one item a line.
use Rattle.std.specs.Prelude.{ℕ, zero, suc, List, [], ◌∷◌, ◌++◌, map, Option, Some, None}
use Rattle.std.specs.List.{flat_map}
use Rattle.eq_vlex.specs.declared.key.Key.{Key}
use Rattle.eq_vlex.specs.declared.key.Key.TheVariants as key
use Rattle.eq_vlex.specs.declared.mark.Mark.{Mark}
use Rattle.eq_vlex.specs.declared.mark.Mark.TheVariants as mark
use Rattle.eq_vlex.specs.declared.token.Constant.{Constant}
use Rattle.eq_vlex.specs.declared.token.TokenKind.{TokenKind}
use Rattle.eq_vlex.specs.declared.token.TokenKind.TheVariants as kind
use Rattle.eq_vparse.specs.declared.shape.Form.{Form}
use Rattle.eq_vparse.specs.declared.shape.Form.TheVariants as form
use Rattle.eq_vparse.specs.declared.tree.UnOp.{UnOp}
use Rattle.eq_vparse.specs.declared.tree.UnOp.TheVariants as un
use Rattle.eq_vparse.specs.declared.tree.BinOp.{BinOp}
use Rattle.eq_vparse.specs.declared.tree.BinOp.TheVariants as bin
use Rattle.eq_vparse.specs.declared.tree.DeclKind.{DeclKind}
use Rattle.eq_vparse.specs.declared.tree.DeclKind.TheVariants as decl
use Rattle.eq_vparse.specs.declared.tree.GateKind.{GateKind}
use Rattle.eq_vparse.specs.declared.tree.GateKind.TheVariants as gate
use Rattle.eq_vparse.specs.declared.tree.Range.{Range}
use Rattle.eq_vparse.specs.declared.tree.Expr.{Expr}
use Rattle.eq_vparse.specs.declared.tree.Expr.TheOpen.{Expr-F, Const, Net, Bit, Part, Concat, Repeat, Unary, Binary, Cond}
use Rattle.eq_vparse.specs.declared.tree.Expr.TheFolds.{fold-Expr}
use Rattle.eq_vparse.specs.declared.tree.Target.{Target}
use Rattle.eq_vparse.specs.declared.tree.Target.TheOpen.{Target-F, Net as TargetNet, Bit as TargetBit, Part as TargetPart, Concat as TargetConcat}
use Rattle.eq_vparse.specs.declared.tree.Target.TheFolds.{fold-Target}
use Rattle.eq_vparse.specs.declared.tree.Stmt.{Stmt}
use Rattle.eq_vparse.specs.declared.tree.Stmt.TheOpen.{Stmt-F, Empty, Set, Block, If}
use Rattle.eq_vparse.specs.declared.tree.Stmt.TheFolds.{fold-Stmt}
use Rattle.eq_vparse.specs.declared.tree.Named.{Named}
use Rattle.eq_vparse.specs.declared.tree.Conns.{Conns}
use Rattle.eq_vparse.specs.declared.tree.Conns.TheVariants.{ByOrder, ByName}
use Rattle.eq_vparse.specs.declared.tree.Item.{Item}
use Rattle.eq_vparse.specs.declared.tree.Item.TheVariants as item
use Rattle.eq_vparse.specs.declared.tree.Module.{Module}
use Rattle.eq_vparse.specs.declared.tree.Source.{Source}
use Rattle.eq_vparse.specs.Phrases.{index_tokens, range_tokens}
use Rattle.eq_vparse.specs.Layout.{Written, token, line}

-- ---- the pieces of lists

-- with a comma before each
abbrev pub more : List (List TokenKind) → List TokenKind
more all = flat_map (λ ts. kind.Mark mark.Comma ∷ ts) all

-- with a comma between two
abbrev pub separated : List (List TokenKind) → List TokenKind
separated [] = []
separated (ts ∷ rest) = ts ++ more rest

-- what stands before the element at a place
abbrev pub comma_at : ℕ → List TokenKind
comma_at zero = []
comma_at (suc n) = kind.Mark mark.Comma ∷ []

-- in parentheses and in braces
abbrev pub parenthesized : List TokenKind → List TokenKind
parenthesized ts = kind.Mark mark.LeftParen ∷ ts ++ kind.Mark mark.RightParen ∷ []

abbrev pub braced : List TokenKind → List TokenKind
braced ts = kind.Mark mark.LeftBrace ∷ ts ++ kind.Mark mark.RightBrace ∷ []

-- ---- operators, each in its first spelling

abbrev pub unary_mark : UnOp → Mark
unary_mark un.Not = mark.Tilde
unary_mark un.LogNot = mark.Exclamation
unary_mark un.Neg = mark.Minus
unary_mark un.RedAnd = mark.And
unary_mark un.RedNand = mark.TildeAnd
unary_mark un.RedOr = mark.Or
unary_mark un.RedNor = mark.TildeOr
unary_mark un.RedXor = mark.Xor
unary_mark un.RedXnor = mark.TildeXor

abbrev pub binary_mark : BinOp → Mark
binary_mark bin.Add = mark.Plus
binary_mark bin.Sub = mark.Minus
binary_mark bin.Shl = mark.ShiftLeft
binary_mark bin.Shr = mark.ShiftRight
binary_mark bin.Lt = mark.Less
binary_mark bin.Le = mark.LessEqual
binary_mark bin.Gt = mark.Greater
binary_mark bin.Ge = mark.GreaterEqual
binary_mark bin.Eq = mark.Equal
binary_mark bin.Ne = mark.NotEqual
binary_mark bin.And = mark.And
binary_mark bin.Xor = mark.Xor
binary_mark bin.Xnor = mark.TildeXor
binary_mark bin.Or = mark.Or
binary_mark bin.LogAnd = mark.LogicalAnd
binary_mark bin.LogOr = mark.LogicalOr

-- ---- expressions

-- an expression's form and tokens
abbrev pub Shown : Type 0
Shown = Form × List TokenKind

-- an operand that has an operator stands in parentheses
abbrev pub as_operand : Form → List TokenKind → List TokenKind
as_operand form.Operation ts = parenthesized ts
as_operand _ ts = ts

-- and so does a constant before `?`, which would be read as a digit of it
abbrev pub as_condition : Form → List TokenKind → List TokenKind
as_condition form.Primary ts = ts
as_condition _ ts = parenthesized ts

abbrev pub operand : Shown → List TokenKind
operand shown = as_operand shown.0 shown.1

abbrev pub condition : Shown → List TokenKind
condition shown = as_condition shown.0 shown.1

abbrev pub binary_tokens : BinOp → List TokenKind → List TokenKind → List TokenKind
binary_tokens op a b = a ++ kind.Mark (binary_mark op) ∷ b

abbrev pub choice_tokens : List TokenKind → List TokenKind → List TokenKind → List TokenKind
choice_tokens c a b = c ++ kind.Mark mark.Question ∷ (a ++ kind.Mark mark.Colon ∷ b)

abbrev pub parts : List Shown → List TokenKind
parts all = separated (map (λ (shown : Shown). shown.1) all)

abbrev pub expr_layer : Expr-F Shown → Shown
expr_layer (Const c) = (form.Constant, kind.Sized c ∷ [])
expr_layer (Net n) = (form.Primary, kind.Word n ∷ [])
expr_layer (Bit n place) = (form.Primary, kind.Word n ∷ index_tokens place)
expr_layer (Part n left right) = (form.Primary, kind.Word n ∷ range_tokens left right)
expr_layer (Concat all) = (form.Primary, braced (parts all))
expr_layer (Repeat times all) = (form.Primary, braced (kind.Decimal times ∷ braced (parts all)))
expr_layer (Unary op a) = (form.Operation, kind.Mark (unary_mark op) ∷ operand a)
expr_layer (Binary op a b) = (form.Operation, binary_tokens op (operand a) (operand b))
expr_layer (Cond c a b) = (form.Operation, choice_tokens (condition c) (operand a) (operand b))

abbrev pub shown : Expr → Shown
shown = fold-Expr Shown expr_layer

abbrev pub expr_tokens : Expr → List TokenKind
expr_tokens e = (shown e).1

abbrev pub operand_tokens : Expr → List TokenKind
operand_tokens e = operand (shown e)

abbrev pub condition_tokens : Expr → List TokenKind
condition_tokens e = condition (shown e)

abbrev pub exprs_tokens : List Expr → List TokenKind
exprs_tokens es = separated (map expr_tokens es)

-- ---- targets

abbrev pub target_layer : Target-F (List TokenKind) → List TokenKind
target_layer (TargetNet n) = kind.Word n ∷ []
target_layer (TargetBit n place) = kind.Word n ∷ index_tokens place
target_layer (TargetPart n left right) = kind.Word n ∷ range_tokens left right
target_layer (TargetConcat all) = braced (separated all)

abbrev pub target_tokens : Target → List TokenKind
target_tokens = fold-Target (List TokenKind) target_layer

abbrev pub targets_tokens : List Target → List TokenKind
targets_tokens ts = separated (map target_tokens ts)

-- ---- statements

abbrev pub set_tokens : Target → Expr → List TokenKind
set_tokens t e = target_tokens t ++ kind.Mark mark.LessEqual ∷ (expr_tokens e ++ kind.Mark mark.Semicolon ∷ [])

abbrev pub block_tokens : List TokenKind → List TokenKind
block_tokens body = kind.Key key.Begin ∷ body ++ kind.Key key.End ∷ []

abbrev pub if_tokens : Expr → List TokenKind
if_tokens c = kind.Key key.If ∷ parenthesized (expr_tokens c)

abbrev pub else_tokens : Option (List TokenKind) → List TokenKind
else_tokens None = []
else_tokens (Some ts) = kind.Key key.Else ∷ ts

abbrev pub stmt_layer : Stmt-F (List TokenKind) → List TokenKind
stmt_layer Empty = kind.Mark mark.Semicolon ∷ []
stmt_layer (Set t e) = set_tokens t e
stmt_layer (Block all) = block_tokens (flat_map (λ ts. ts) all)
stmt_layer (If c a b) = if_tokens c ++ (a ++ else_tokens b)

abbrev pub stmt_tokens : Stmt → List TokenKind
stmt_tokens = fold-Stmt (List TokenKind) stmt_layer

abbrev pub stmts_tokens : List Stmt → List TokenKind
stmts_tokens ss = flat_map stmt_tokens ss

-- ---- items

abbrev pub decl_key : DeclKind → Key
decl_key decl.Input = key.Input
decl_key decl.Output = key.Output
decl_key decl.Wire = key.Wire
decl_key decl.Reg = key.Reg

abbrev pub gate_key : GateKind → Key
gate_key gate.And = key.And
gate_key gate.Nand = key.Nand
gate_key gate.Or = key.Or
gate_key gate.Nor = key.Nor
gate_key gate.Xor = key.Xor
gate_key gate.Xnor = key.Xnor
gate_key gate.Buf = key.Buf
gate_key gate.Not = key.Not

abbrev pub maybe_range : Option Range → List TokenKind
maybe_range None = []
maybe_range (Some r) = range_tokens r.left r.right

abbrev pub maybe_name : Option (List ℕ) → List TokenKind
maybe_name None = []
maybe_name (Some n) = kind.Word n ∷ []

abbrev pub maybe_expr : Option Expr → List TokenKind
maybe_expr None = []
maybe_expr (Some e) = expr_tokens e

abbrev pub maybe_exprs : List (Option Expr) → List TokenKind
maybe_exprs all = separated (map maybe_expr all)

abbrev pub named_tokens : Named → List TokenKind
named_tokens n = kind.Mark mark.Dot ∷ kind.Word n.port ∷ parenthesized (maybe_expr n.expr)

abbrev pub all_named : List Named → List TokenKind
all_named all = separated (map named_tokens all)

abbrev pub conns_tokens : Conns → List TokenKind
conns_tokens (ByOrder all) = maybe_exprs all
conns_tokens (ByName all) = all_named all

abbrev pub decl_tokens : DeclKind → Option Range → List ℕ → List TokenKind
decl_tokens k r n = kind.Key (decl_key k) ∷ (maybe_range r ++ kind.Word n ∷ kind.Mark mark.Semicolon ∷ [])

abbrev pub assign_tokens : Target → Expr → List TokenKind
assign_tokens t e = kind.Key key.Assign ∷ (target_tokens t ++ kind.Mark mark.Assign ∷ (expr_tokens e ++ kind.Mark mark.Semicolon ∷ []))

abbrev pub gate_tokens : GateKind → Option (List ℕ) → List Expr → List TokenKind
gate_tokens k n terms = kind.Key (gate_key k) ∷ (maybe_name n ++ kind.Mark mark.LeftParen ∷ (exprs_tokens terms ++ kind.Mark mark.RightParen ∷ kind.Mark mark.Semicolon ∷ []))

abbrev pub instance_tokens : List ℕ → List ℕ → Conns → List TokenKind
instance_tokens m n all = kind.Word m ∷ kind.Word n ∷ kind.Mark mark.LeftParen ∷ (conns_tokens all ++ kind.Mark mark.RightParen ∷ kind.Mark mark.Semicolon ∷ [])

abbrev pub always_tokens : Target → Stmt → List TokenKind
always_tokens clock body = kind.Key key.Always ∷ kind.Mark mark.At ∷ kind.Mark mark.LeftParen ∷ kind.Key key.Posedge ∷ (target_tokens clock ++ kind.Mark mark.RightParen ∷ stmt_tokens body)

abbrev pub init_tokens : Target → Constant → List TokenKind
init_tokens t value = kind.Key key.Initial ∷ (target_tokens t ++ kind.Mark mark.Assign ∷ kind.Sized value ∷ kind.Mark mark.Semicolon ∷ [])

abbrev pub item_tokens : Item → List TokenKind
item_tokens (item.Decl k r n) = decl_tokens k r n
item_tokens (item.Assign t e) = assign_tokens t e
item_tokens (item.Gate k n terms) = gate_tokens k n terms
item_tokens (item.Instance m n all) = instance_tokens m n all
item_tokens (item.Always clock body) = always_tokens clock body
item_tokens (item.Init t value) = init_tokens t value

-- ---- lines

abbrev pub line_of : List TokenKind → List Written
line_of ts = map (λ t. token t) ts ++ line ∷ []

abbrev pub names_tokens : List (List ℕ) → List TokenKind
names_tokens ns = separated (map (λ n. kind.Word n ∷ []) ns)

abbrev pub header_tokens : List ℕ → List (List ℕ) → List TokenKind
header_tokens name ports = kind.Key key.Module ∷ kind.Word name ∷ kind.Mark mark.LeftParen ∷ (names_tokens ports ++ kind.Mark mark.RightParen ∷ kind.Mark mark.Semicolon ∷ [])

abbrev pub item_written : Item → List Written
item_written i = line_of (item_tokens i)

abbrev pub items_written : List Item → List Written
items_written all = flat_map item_written all

abbrev pub module_written : Module → List Written
module_written m = line_of (header_tokens m.name m.ports) ++ (items_written m.items ++ line_of (kind.Key key.Endmodule ∷ []))

abbrev pub modules_written : List Module → List Written
modules_written all = flat_map module_written all

-- each line of the text
abbrev pub written : Source → List Written
written s = modules_written s.modules
