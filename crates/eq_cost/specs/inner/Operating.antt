-- Mirrors src/operators.rt; nothing here has to be believed.
-- What operators cost, as lines.
use Rattle.std.specs.Prelude.{◌≡◌, ℕ, ◌+◌, ◌*◌, Bool, true, false}
use Rattle.eq_vparse.specs.declared.tree.BinOp.{BinOp}
use Rattle.eq_vparse.specs.declared.tree.BinOp.TheVariants as bin
use Rattle.eq_net.specs.declared.types.RedOp.{RedOp}
use Rattle.eq_net.specs.declared.types.RedOp.TheVariants as red
use Rattle.eq_verilog.specs.Sizes.{UnaryForm, complement, opposite, reduction, Sizing, in_context, shifting, comparing, judging}
use Rattle.eq_cost.specs.Counts.{told}

abbrev pub is_reduction : UnaryForm → Bool
is_reduction complement = false
is_reduction opposite = false
is_reduction (reduction r) = true

abbrev pub reduced_slope : RedOp → ℕ
reduced_slope red.And = 1
reduced_slope red.Or = 4
reduced_slope red.Xor = 1
reduced_slope red.Nand = 1
reduced_slope red.Nor = 4
reduced_slope red.Xnor = 1
reduced_slope red.Zero = 4

abbrev pub reduced_base : RedOp → ℕ
reduced_base red.And = 0
reduced_base red.Or = 0
reduced_base red.Xor = 0
reduced_base red.Nand = 1
reduced_base red.Nor = 1
reduced_base red.Xnor = 1
reduced_base red.Zero = 1

abbrev pub unary_slope : UnaryForm → ℕ
unary_slope complement = 1
unary_slope opposite = 6
unary_slope (reduction r) = reduced_slope r

abbrev pub unary_base : UnaryForm → ℕ
unary_base complement = 0
unary_base opposite = 0
unary_base (reduction r) = reduced_base r

-- where the right operand has n bits
abbrev pub operator_slope : BinOp → ℕ → ℕ
operator_slope bin.Add n = 5
operator_slope bin.Sub n = 6
operator_slope bin.Shl n = n
operator_slope bin.Shr n = n
operator_slope bin.Lt n = 2
operator_slope bin.Le n = 2
operator_slope bin.Gt n = 2
operator_slope bin.Ge n = 2
operator_slope bin.Eq n = 3
operator_slope bin.Ne n = 3
operator_slope bin.And n = 1
operator_slope bin.Xor n = 1
operator_slope bin.Xnor n = 2
operator_slope bin.Or n = 4
operator_slope bin.LogAnd n = 4
operator_slope bin.LogOr n = 4

abbrev pub operator_base : BinOp → ℕ → ℕ
operator_base bin.Add n = 0
operator_base bin.Sub n = 0
operator_base bin.Shl n = 0
operator_base bin.Shr n = 0
operator_base bin.Lt n = 1
operator_base bin.Le n = 1
operator_base bin.Gt n = 1
operator_base bin.Ge n = 1
operator_base bin.Eq n = 0
operator_base bin.Ne n = 1
operator_base bin.And n = 0
operator_base bin.Xor n = 0
operator_base bin.Xnor n = 0
operator_base bin.Or n = 0
operator_base bin.LogAnd n = told (4 * n + 4)
operator_base bin.LogOr n = told (4 * n + 4)

-- the right operand has k bits where n are told. That matters to shifts and to `&&` and `||` alone
abbrev pub AreNear : Sizing → ℕ → ℕ → Type 0
AreNear in_context k n = Unit {0}
AreNear comparing k n = Unit {0}
AreNear shifting k n = told k ≡ told n
AreNear judging k n = told k ≡ told n
