-- Each form of an expression has its size and its line from those of its parts.
use Rattle.std.proofs.Common.{◌≡◌, ℕ, ◌+◌, ◌*◌, max, true, false, refl, sym, ap, subst, ◌∙◌, arith}
use Rattle.eq_vparse.specs.declared.tree.BinOp.{BinOp}
use Rattle.eq_vparse.specs.declared.tree.UnOp.{UnOp}
use Rattle.eq_net.specs.Operators.{apply_cost}
use Rattle.eq_verilog.specs.Trees.{ExprTree, unary, binary, choice}
use Rattle.eq_verilog.specs.Scopes.{Scope}
use Rattle.eq_verilog.specs.Sizes.{UnaryForm, complement, opposite, reduction, unary_form, unary_own, operand_size, Sizing, in_context, shifting, comparing, judging, sizing, binary_own, left_sized, right_sized, own}
use Rattle.eq_verilog.specs.Expressions.{word_op}
use Rattle.eq_verilog.specs.Costs.{cost, unary_cost}
use Rattle.eq_cost.specs.Counts.{told}
use Rattle.eq_cost.specs.declared.forms.Costed.{Costed}
use Rattle.eq_cost.specs.inner.Lines.{IsLine, IsCosted}
use Rattle.eq_cost.specs.inner.Operating.{AreNear, is_reduction}

-- ---- operators of one operand

false_true : true ≡ false → ⊥
false_true h = absurd (cc)

true_false : false ≡ true → ⊥
true_false h = absurd (cc)

abbrev pub in_form : UnaryForm → ℕ → (ℕ → ℕ) → ℕ → ℕ
in_form form n f w = unary_cost form (operand_size form w n) + f (operand_size form w n)

kept_size : (form : UnaryForm) (n : ℕ) → is_reduction form ≡ false → unary_own form n ≡ n
kept_size complement n h = refl
kept_size opposite n h = refl
kept_size (reduction r) n h = absurd (false_true h)

kept_line : (form : UnaryForm) (n : ℕ) (f : ℕ → ℕ) (w : ℕ) → is_reduction form ≡ false →
    unary_cost form w + f w ≡ in_form form n f w
kept_line complement n f w h = refl
kept_line opposite n f w h = refl
kept_line (reduction r) n f w h = absurd (false_true h)

reduced_size : (form : UnaryForm) (n : ℕ) → is_reduction form ≡ true → unary_own form n ≡ 1
reduced_size complement n h = absurd (true_false h)
reduced_size opposite n h = absurd (true_false h)
reduced_size (reduction r) n h = refl

reduced_line : (form : UnaryForm) (n : ℕ) (f : ℕ → ℕ) (w : ℕ) → is_reduction form ≡ true →
    unary_cost form n + f n ≡ in_form form n f w
reduced_line complement n f w h = absurd (true_false h)
reduced_line opposite n f w h = absurd (true_false h)
reduced_line (reduction r) n f w h = refl

module _ (s : Scope) (op : UnOp) (a : ExprTree) (r : Costed) where
  pub is_kept : is_reduction (unary_form op) ≡ false → told r.size ≡ told (own s a) →
      IsLine (λ w. unary_cost (unary_form op) w + cost s a w) r.line → IsCosted s (unary op a) r
  is_kept h size line = record {
    size = size ∙ ap (λ n. told n) (sym (kept_size (unary_form op) (own s a) h));
    line = λ w. ap (λ n. told n) (sym (kept_line (unary_form op) (own s a) (cost s a) w h)) ∙ line w;
  }

  pub is_reduced : is_reduction (unary_form op) ≡ true → r.size ≡ 1 →
      ((f : ℕ → ℕ) → ((w : ℕ) → told (unary_cost (unary_form op) (own s a) + cost s a (own s a)) ≡ told (f w)) →
      IsLine f r.line) → IsCosted s (unary op a) r
  is_reduced h size line = record {
    size = ap (λ n. told n) (size ∙ sym (reduced_size (unary_form op) (own s a) h));
    line = line (cost s (unary op a))
        (λ w. ap (λ n. told n) (reduced_line (unary_form op) (own s a) (cost s a) w h));
  }

-- ---- operators of two operands

abbrev pub in_sizing : Sizing → BinOp → ℕ → ℕ → (ℕ → ℕ) → (ℕ → ℕ) → ℕ → ℕ
in_sizing z op n m f g w =
    apply_cost (word_op op) (left_sized z w n m) (right_sized z w n m)
    + (f (left_sized z w n m) + g (right_sized z w n m))

abbrev pub IsSized : Sizing → BinOp → Scope → ExprTree → ExprTree → Costed → Type 0
IsSized z op s a b r =
    (told r.size ≡ told (binary_own z (own s a) (own s b)))
    × IsLine (in_sizing z op (own s a) (own s b) (cost s a) (cost s b)) r.line

module _ (s : Scope) (op : BinOp) (a b : ExprTree) (r : Costed) where
  sized : (z : Sizing) → sizing op ≡ z → IsSized z op s a b r → IsCosted s (binary op a b) r
  sized z h is =
      let same = subst (λ y. IsSized y op s a b r) (sym h) is in
      record { size = same.0; line = same.1 }

  pub is_in_context : sizing op ≡ in_context → told r.size ≡ told (max (own s a) (own s b)) →
      IsLine (λ w. apply_cost (word_op op) w w + (cost s a w + cost s b w)) r.line → IsCosted s (binary op a b) r
  is_in_context h size line = sized in_context h (size, line)

  pub is_shifting : sizing op ≡ shifting → told r.size ≡ told (own s a) →
      IsLine (λ w. apply_cost (word_op op) w (own s b) + (cost s a w + cost s b (own s b))) r.line →
      IsCosted s (binary op a b) r
  is_shifting h size line = sized shifting h (size, line)

  pub is_comparing : sizing op ≡ comparing → r.size ≡ 1 →
      IsLine (in_sizing comparing op (own s a) (own s b) (cost s a) (cost s b)) r.line → IsCosted s (binary op a b) r
  is_comparing h size line = sized comparing h (ap (λ n. told n) size, line)

  pub is_judging : sizing op ≡ judging → r.size ≡ 1 →
      IsLine (in_sizing judging op (own s a) (own s b) (cost s a) (cost s b)) r.line → IsCosted s (binary op a b) r
  is_judging h size line = sized judging h (ap (λ n. told n) size, line)

near_in : (z y : Sizing) → y ≡ z → ((k n : ℕ) → AreNear z k n) → (k n : ℕ) → AreNear y k n
near_in z y e h k n = subst (λ x. AreNear x k n) (sym e) (h k n)

-- the right operand's size doesn't matter
pub near_in_context : (y : Sizing) → y ≡ in_context → (k n : ℕ) → AreNear y k n
near_in_context y e = near_in in_context y e (λ k n. tt)

pub near_comparing : (y : Sizing) → y ≡ comparing → (k n : ℕ) → AreNear y k n
near_comparing y e = near_in comparing y e (λ k n. tt)

-- ---- choices

pub base_in : (n m c d p r : ℕ) → told m ≡ told n → told d ≡ told c → p ≡ told (4 * m) → r ≡ told (p + d) →
    told r ≡ told (4 * n + c)
base_in n m c d p r h k e f = omega arith

pub tested : (w b c s : ℕ) → s ≡ 1 → told b ≡ told c → told (w + c) ≡ told (s * w + b)
tested w b c s e h =
    let same : s * w ≡ 1 * w = ap (λ k. k * w) e in
    omega arith

chosen : (n w c x y : ℕ) → (w + (4 * n + c)) + (x + y) ≡ (4 * n + w) + (c + (x + y))
chosen n w c x y = omega arith

pub is_choice : (s : Scope) (c a b : ExprTree) (r : Costed) → told r.size ≡ told (max (own s a) (own s b)) →
    IsLine (λ w. (w + (4 * own s c + cost s c (own s c))) + (cost s a w + cost s b w)) r.line →
    IsCosted s (choice c a b) r
is_choice s c a b r size line = record {
  size = size;
  line = λ w.
      ap (λ n. told n) (sym (chosen (own s c) w (cost s c (own s c)) (cost s a w) (cost s b w))) ∙ line w;
}
