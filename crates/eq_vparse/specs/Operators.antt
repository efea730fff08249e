-- Operators: which marks write them, and how strongly they bind (IEEE 1364-2005, 5.1.2 and tables 5-1 to 5-4).
use Rattle.std.specs.Prelude.{ℕ, Option, Some, None}
use Rattle.eq_vlex.specs.declared.mark.Mark.{Mark}
use Rattle.eq_vlex.specs.declared.mark.Mark.TheVariants as mark
use Rattle.eq_vparse.specs.declared.tree.UnOp.{UnOp}
use Rattle.eq_vparse.specs.declared.tree.UnOp.TheVariants as un
use Rattle.eq_vparse.specs.declared.tree.BinOp.{BinOp}
use Rattle.eq_vparse.specs.declared.tree.BinOp.TheVariants as bin

-- the unary operator that a mark writes
abbrev pub unary_of : Mark → Option UnOp
unary_of mark.Tilde = Some un.Not
unary_of mark.Exclamation = Some un.LogNot
unary_of mark.Minus = Some un.Neg
unary_of mark.And = Some un.RedAnd
unary_of mark.TildeAnd = Some un.RedNand
unary_of mark.Or = Some un.RedOr
unary_of mark.TildeOr = Some un.RedNor
unary_of mark.Xor = Some un.RedXor
unary_of mark.TildeXor = Some un.RedXnor
unary_of mark.XorTilde = Some un.RedXnor
unary_of _ = None

-- the binary operator that a mark writes; two values know no difference between `==` and `===`
abbrev pub binary_of : Mark → Option BinOp
binary_of mark.Plus = Some bin.Add
binary_of mark.Minus = Some bin.Sub
binary_of mark.ShiftLeft = Some bin.Shl
binary_of mark.ShiftRight = Some bin.Shr
binary_of mark.Less = Some bin.Lt
binary_of mark.LessEqual = Some bin.Le
binary_of mark.Greater = Some bin.Gt
binary_of mark.GreaterEqual = Some bin.Ge
binary_of mark.Equal = Some bin.Eq
binary_of mark.CaseEqual = Some bin.Eq
binary_of mark.NotEqual = Some bin.Ne
binary_of mark.CaseNotEqual = Some bin.Ne
binary_of mark.And = Some bin.And
binary_of mark.Xor = Some bin.Xor
binary_of mark.TildeXor = Some bin.Xnor
binary_of mark.XorTilde = Some bin.Xnor
binary_of mark.Or = Some bin.Or
binary_of mark.LogicalAnd = Some bin.LogAnd
binary_of mark.LogicalOr = Some bin.LogOr
binary_of _ = None

-- How strongly a binary operator binds, from the strongest. A primary and a unary operator bind with 11, `?:` with 1.
abbrev pub strength_of : BinOp → ℕ
strength_of bin.Add = 10
strength_of bin.Sub = 10
strength_of bin.Shl = 9
strength_of bin.Shr = 9
strength_of bin.Lt = 8
strength_of bin.Le = 8
strength_of bin.Gt = 8
strength_of bin.Ge = 8
strength_of bin.Eq = 7
strength_of bin.Ne = 7
strength_of bin.And = 6
strength_of bin.Xor = 5
strength_of bin.Xnor = 5
strength_of bin.Or = 4
strength_of bin.LogAnd = 3
strength_of bin.LogOr = 2
