-- How many bits an expression has by itself, and in which size an operator takes its operands (IEEE 1364-2005, 5.4.1,
-- table 5-22). Shift amounts, conditions, parts of concatenations and the operands of reductions and of `!`, `&&` and
-- `||` are determined by themselves; the operands of a comparison have the larger of their two sizes; all others have
-- the context's.
use Rattle.std.specs.Prelude.{ℕ, ◌+◌, ◌*◌, max}
use Rattle.eq_vparse.specs.declared.tree.UnOp.{UnOp}
use Rattle.eq_vparse.specs.declared.tree.UnOp.TheVariants as un
use Rattle.eq_vparse.specs.declared.tree.BinOp.{BinOp}
use Rattle.eq_vparse.specs.declared.tree.BinOp.TheVariants as bin
use Rattle.eq_net.specs.declared.types.RedOp.{RedOp}
use Rattle.eq_net.specs.declared.types.RedOp.TheVariants as red
use Rattle.eq_verilog.specs.Trees.{ExprTree, const, net, bit, part, empty, joined, repeated, unary, binary, choice}
use Rattle.eq_verilog.specs.Scopes.{Scope, width, span}

-- ---- operators of one operand

pub data UnaryForm : Type 0 where
  complement : UnaryForm
  opposite : UnaryForm
  -- to one bit
  reduction : RedOp → UnaryForm

abbrev pub unary_form : UnOp → UnaryForm
unary_form un.Not = complement
unary_form un.Neg = opposite
unary_form un.LogNot = reduction red.Zero
unary_form un.RedAnd = reduction red.And
unary_form un.RedNand = reduction red.Nand
unary_form un.RedOr = reduction red.Or
unary_form un.RedNor = reduction red.Nor
unary_form un.RedXor = reduction red.Xor
unary_form un.RedXnor = reduction red.Xnor

-- the size of a result whose operand has n bits by itself
abbrev pub unary_own : UnaryForm → ℕ → ℕ
unary_own complement n = n
unary_own opposite n = n
unary_own (reduction r) n = 1

-- the operand's size in a context of w bits
abbrev pub operand_size : UnaryForm → ℕ → ℕ → ℕ
operand_size complement w n = w
operand_size opposite w n = w
operand_size (reduction r) w n = n

-- ---- operators of two operands

pub data Sizing : Type 0 where
  -- both have the context's size
  in_context : Sizing
  -- the left one has the context's size, the right one its own
  shifting : Sizing
  -- both have the larger of their own sizes, and the result has one bit
  comparing : Sizing
  -- each has its own size, and the result has one bit
  judging : Sizing

abbrev pub sizing : BinOp → Sizing
sizing bin.Shl = shifting
sizing bin.Shr = shifting
sizing bin.Lt = comparing
sizing bin.Le = comparing
sizing bin.Gt = comparing
sizing bin.Ge = comparing
sizing bin.Eq = comparing
sizing bin.Ne = comparing
sizing bin.LogAnd = judging
sizing bin.LogOr = judging
sizing _ = in_context

-- the size of a result whose operands have n and m bits by themselves
abbrev pub binary_own : Sizing → ℕ → ℕ → ℕ
binary_own in_context n m = max n m
binary_own shifting n m = n
binary_own comparing n m = 1
binary_own judging n m = 1

-- the left operand's size in a context of w bits
abbrev pub left_sized : Sizing → ℕ → ℕ → ℕ → ℕ
left_sized in_context w n m = w
left_sized shifting w n m = w
left_sized comparing w n m = max n m
left_sized judging w n m = n

-- the right operand's size there
abbrev pub right_sized : Sizing → ℕ → ℕ → ℕ → ℕ
right_sized in_context w n m = w
right_sized shifting w n m = m
right_sized comparing w n m = max n m
right_sized judging w n m = m

-- ---- expressions

-- the size that an expression has by itself
abbrev pub own : Scope → ExprTree → ℕ
own s (const c) = c.size
own s (net n) = width s n
own s (bit n i) = 1
own s (part n l r) = span l r
own s empty = 0
own s (joined a b) = own s a + own s b
own s (repeated n a) = n * own s a
own s (unary op a) = unary_own (unary_form op) (own s a)
own s (binary op a b) = binary_own (sizing op) (own s a) (own s b)
own s (choice c a b) = max (own s a) (own s b)

-- the sizes of operands in a context of w bits
abbrev pub inner_size : Scope → UnOp → ExprTree → ℕ → ℕ
inner_size s op a w = operand_size (unary_form op) w (own s a)

abbrev pub left_size : Scope → BinOp → ExprTree → ExprTree → ℕ → ℕ
left_size s op a b w = left_sized (sizing op) w (own s a) (own s b)

abbrev pub right_size : Scope → BinOp → ExprTree → ExprTree → ℕ → ℕ
right_size s op a b w = right_sized (sizing op) w (own s a) (own s b)

-- the size in which a right side is computed: the larger of the two sides' sizes. Each side has its own scope, since a
-- connection goes from one instance into another
abbrev pub context : Scope → ExprTree → Scope → ExprTree → ℕ
context ts t ss e = max (own ts t) (own ss e)
