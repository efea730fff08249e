-- What operators cost is a line.
use Rattle.std.proofs.Common.{◌≡◌, ℕ, ◌+◌, ◌*◌, refl, sym, ap, ap₂, ◌∙◌, arith}
use Rattle.std.proofs.Math.Nat.{mul_comm}
use Rattle.eq_vparse.specs.declared.tree.BinOp.{BinOp}
use Rattle.eq_vparse.specs.declared.tree.BinOp.TheVariants as bin
use Rattle.eq_net.specs.declared.types.RedOp.{RedOp}
use Rattle.eq_net.specs.declared.types.RedOp.TheVariants as red
use Rattle.eq_net.specs.Operators.{apply_cost, reduce_cost}
use Rattle.eq_verilog.specs.Sizes.{UnaryForm, complement, opposite, reduction, Sizing, in_context, shifting, comparing, judging, sizing}
use Rattle.eq_verilog.specs.Expressions.{word_op}
use Rattle.eq_verilog.specs.Costs.{unary_cost}
use Rattle.eq_cost.specs.Counts.{told}
use Rattle.eq_cost.specs.declared.lines.Line.{Line}
use Rattle.eq_cost.specs.inner.Lines.{IsLine}
use Rattle.eq_cost.specs.inner.Operating.{AreNear, operator_base, operator_slope, reduced_base, reduced_slope, unary_base, unary_slope}
use Rattle.eq_cost.proofs.Numbers.{products}

reduced_at : (r : RedOp) (w : ℕ) → reduce_cost r w ≡ reduced_slope r * w + reduced_base r
reduced_at red.And w = omega arith
reduced_at red.Or w = omega arith
reduced_at red.Xor w = omega arith
reduced_at red.Nand w = omega arith
reduced_at red.Nor w = omega arith
reduced_at red.Xnor w = omega arith
reduced_at red.Zero w = omega arith

unary_at : (form : UnaryForm) (w : ℕ) → unary_cost form w ≡ unary_slope form * w + unary_base form
unary_at complement w = omega arith
unary_at opposite w = omega arith
unary_at (reduction r) w = reduced_at r w

pub unary_lined : (form : UnaryForm) (l : Line) → l.slope ≡ unary_slope form → l.base ≡ unary_base form →
    IsLine (unary_cost form) l
unary_lined form l s b = λ w. ap (λ n. told n) (unary_at form w ∙ ap₂ (λ k c. k * w + c) (sym s) (sym b))

shifted : (m k n : ℕ) → told k ≡ told n → told (m * n) ≡ told (k * m + 0)
shifted m k n h =
    let e : told (m * n) ≡ told (k * m) = ap (λ x. told x) (mul_comm m n) ∙ products n k m m (sym h) refl in
    omega arith

judged : (m k n : ℕ) → told k ≡ told n → told (4 * (m + n) + 4) ≡ told (4 * m + told (4 * k + 4))
judged m k n h = omega arith

pub operator_at : (op : BinOp) (m k n : ℕ) → AreNear (sizing op) k n →
    told (apply_cost (word_op op) m n) ≡ told (operator_slope op k * m + operator_base op k)
operator_at bin.Add m k n h = omega arith
operator_at bin.Sub m k n h = omega arith
operator_at bin.Shl m k n h = shifted m k n h
operator_at bin.Shr m k n h = shifted m k n h
operator_at bin.Lt m k n h = omega arith
operator_at bin.Le m k n h = omega arith
operator_at bin.Gt m k n h = omega arith
operator_at bin.Ge m k n h = omega arith
operator_at bin.Eq m k n h = omega arith
operator_at bin.Ne m k n h = omega arith
operator_at bin.And m k n h = omega arith
operator_at bin.Xor m k n h = omega arith
operator_at bin.Xnor m k n h = omega arith
operator_at bin.Or m k n h = omega arith
operator_at bin.LogAnd m k n h = judged m k n h
operator_at bin.LogOr m k n h = judged m k n h

pub operator_lined : (op : BinOp) (k : ℕ) (l : Line) → l.slope ≡ operator_slope op k → l.base ≡ operator_base op k →
    (m n : ℕ) → AreNear (sizing op) k n → told (apply_cost (word_op op) m n) ≡ told (l.slope * m + l.base)
operator_lined op k l s b m n h =
    operator_at op m k n h ∙ ap₂ (λ x c. told (x * m + c)) (sym s) (sym b)

-- where the sizes are near in themselves
pub near_sized : (z : Sizing) (k n : ℕ) → told k ≡ told n → AreNear z k n
near_sized in_context k n h = tt
near_sized shifting k n h = h
near_sized comparing k n h = tt
near_sized judging k n h = h
