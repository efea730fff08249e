-- Of its operands an operation sees no more digits than they have.
use Rattle.std.proofs.Common.{◌≡◌, ℕ, ◌+◌, ◌-◌, ◌*◌, ◌/◌, ◌^◌, ◌<◌, Bool, true, false, not, ◌&&◌, ◌||◌, ◌==◌, nat_lt, nat_le, cond, refl, arith, ap, ◌∙◌}
use Rattle.std.proofs.lemmas.Bool.{ltb-true}
use Rattle.eq_net.specs.declared.types.WordOp.{WordOp}
use Rattle.eq_net.specs.declared.types.WordOp.TheVariants.{And, Or, Xor, Xnor, Add, Sub, Shl, Shr, Eq, Ne, Lt, Le, Gt, Ge, LogAnd, LogOr}
use Rattle.eq_net.specs.declared.types.RedOp.{RedOp}
use Rattle.eq_net.specs.declared.types.RedOp.TheVariants as red
use Rattle.eq_net.specs.Numbers.{Digits, differ, number, digit, some_one}
use Rattle.eq_net.specs.Meaning.{result_size}
use Rattle.eq_net.specs.Operators.{one_bit, extended, apply, negative, reduce, choose, has_free_sizes}
use Rattle.eq_net.proofs.Sums.{SameBelow, number_same, all_ones_same, some_one_same, parity_same}

module _ (m n : ℕ) (f g h k : Digits) (fh : SameBelow m f h) (gk : SameBelow n g k) where
  numbers : (F : ℕ → ℕ → Bool) → F (number m f) (number n g) ≡ F (number m h) (number n k)
  numbers F = ap (λ x. F x (number n g)) (number_same m f h fh) ∙ ap (λ x. F (number m h) x) (number_same n g k gk)

  truths : (F : Bool → Bool → Bool) → F (some_one m f) (some_one n g) ≡ F (some_one m h) (some_one n k)
  truths F = ap (λ x. F x (some_one n g)) (some_one_same m f h fh) ∙ ap (λ x. F (some_one m h) x) (some_one_same n g k gk)

  bits : (j : ℕ) → j < m → m ≡ n → (F : Bool → Bool → Bool) → F (f j) (g j) ≡ F (h j) (k j)
  bits j lt e F = ap (λ x. F x (g j)) (fh j lt) ∙ ap (λ x. F (h j) x) (gk j (omega arith))

  pub apply_below : (o : WordOp) (j : ℕ) → (has_free_sizes o ≡ false → m ≡ n) → j < result_size o m → apply o m n f g j ≡ apply o m n h k j
  apply_below And j sizes lt = bits j lt (sizes refl) (λ x y. x && y)
  apply_below Or j sizes lt = bits j lt (sizes refl) (λ x y. x || y)
  apply_below Xor j sizes lt = bits j lt (sizes refl) (λ x y. differ x y)
  apply_below Xnor j sizes lt = bits j lt (sizes refl) (λ x y. not (differ x y))
  apply_below Add j sizes lt = numbers (λ x y. digit (x + y) j)
  apply_below Sub j sizes lt = numbers (λ x y. digit ((2 ^ m + x) - y) j)
  apply_below Shl j sizes lt = numbers (λ x y. digit (x * 2 ^ y) j)
  apply_below Shr j sizes lt = numbers (λ x y. digit (x / 2 ^ y) j)
  apply_below Eq j sizes lt = numbers (λ x y. one_bit (x == y) j)
  apply_below Ne j sizes lt = numbers (λ x y. one_bit (not (x == y)) j)
  apply_below Lt j sizes lt = numbers (λ x y. one_bit (nat_lt x y) j)
  apply_below Le j sizes lt = numbers (λ x y. one_bit (nat_le x y) j)
  apply_below Gt j sizes lt = numbers (λ x y. one_bit (nat_lt y x) j)
  apply_below Ge j sizes lt = numbers (λ x y. one_bit (nat_le y x) j)
  apply_below LogAnd j sizes lt = truths (λ x y. one_bit (x && y) j)
  apply_below LogOr j sizes lt = truths (λ x y. one_bit (x || y) j)

pub reduce_below : (o : RedOp) (n : ℕ) (f h : Digits) → SameBelow n f h → reduce o n f ≡ reduce o n h
reduce_below red.And n f h same = all_ones_same n f h same
reduce_below red.Or n f h same = some_one_same n f h same
reduce_below red.Xor n f h same = parity_same n f h same
reduce_below red.Nand n f h same = ap not (all_ones_same n f h same)
reduce_below red.Nor n f h same = ap not (some_one_same n f h same)
reduce_below red.Xnor n f h same = ap not (parity_same n f h same)
reduce_below red.Zero n f h same = ap not (some_one_same n f h same)

pub negative_below : (n j : ℕ) (f h : Digits) → SameBelow n f h → negative n f j ≡ negative n h j
negative_below n j f h same = ap (λ x. digit (2 ^ n - x) j) (number_same n f h same)

guarded : (t x y : Bool) → (t ≡ true → x ≡ y) → (t && x) ≡ (t && y)
guarded true x y h = h refl
guarded false x y h = refl

pub extended_below : (n j : ℕ) (f h : Digits) → SameBelow n f h → extended n f j ≡ extended n h j
extended_below n j f h same = guarded (nat_lt j n) (f j) (h j) (λ t. same j (ltb-true j n t))

pub choose_below : (n m j : ℕ) (c d f g h k : Digits) → SameBelow n c d → SameBelow m f h → SameBelow m g k → j < m → choose n c f g j ≡ choose n d h k j
choose_below n m j c d f g h k cd fh gk lt =
    ap (λ x. cond {A = Bool} x (f j) (g j)) (some_one_same n c d cd) ∙ ap (λ x. cond {A = Bool} (some_one n d) x (g j)) (fh j lt)
    ∙ ap (λ x. cond {A = Bool} (some_one n d) (h j) x) (gk j lt)
