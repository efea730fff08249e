-- Operations of one bit: what is found along the bits, and one node in the place of the operands.
use Rattle.std.proofs.Common.{◌≡◌, ℕ, zero, suc, ◌+◌, ◌*◌, ◌<◌, ◌≤◌, ◌==◌, List, Bool, true, false, not, ◌&&◌, cond, slice_index_or, Result, Ok, Err, OnOk, refl, arith, sym, ap, subst, ◌∙◌}
use Rattle.eq_model.specs.System.{Values}
use Rattle.eq_bits.specs.declared.node.Node.{Node}
use Rattle.eq_net.specs.Numbers.{Digits, all_ones, differ, parity, some_one}
use Rattle.eq_net.specs.Operators.{one_bit}
use Rattle.eq_net.specs.Ripples.{less, same}
use Rattle.eq_blast.specs.declared.gates.Kind.{Kind}
use Rattle.eq_blast.specs.declared.gates.Kind.TheVariants as kind_of
use Rattle.eq_blast.specs.inner.Wiring.{Computes, IsClosed}
use Rattle.eq_blast.specs.inner.Growing.{Gives, Grown, HasConstants}
use Rattle.eq_blast.specs.inner.Needs.{one_needs}
use Rattle.eq_blast.specs.inner.Stack.{Performs, Written, seen}
use Rattle.eq_blast.specs.inner.Steps.{folded, step_cost}
use Rattle.eq_blast.proofs.Growth.{both_of}
use Rattle.eq_blast.proofs.Performed.{performs_same}

pub ok_both : {T E P Q R : Type 0} (r : Result T E) → (P → Q → R) → OnOk r P → OnOk r Q → OnOk r R
ok_both (Ok x) f p q = f p q
ok_both (Err e) f p q = tt

-- what a gate over the bits becomes, in the words of numbers
pub folded_less : (n : ℕ) (a b : Digits) → folded kind_of.Less false n a b ≡ less a b n
folded_less zero a b = refl
folded_less (suc n) a b = ap (λ t. cond {A = Bool} (differ (a n) (b n)) (b n) t) (folded_less n a b)

pub folded_equal : (n : ℕ) (a b : Digits) → folded kind_of.Equal true n a b ≡ same a b n
folded_equal zero a b = refl
folded_equal (suc n) a b = ap (λ t. t && not (differ (a n) (b n))) (folded_equal n a b)

pub folded_or : (n : ℕ) (a b : Digits) → folded kind_of.Or false n a b ≡ some_one n a
folded_or zero a b = refl
folded_or (suc n) a b = (let e = folded_or n a b in rw e refl)

pub folded_and : (n : ℕ) (a b : Digits) → folded kind_of.And true n a b ≡ all_ones n a
folded_and zero a b = refl
folded_and (suc n) a b = (let e = folded_and n a b in rw e refl)

pub folded_xor : (n : ℕ) (a b : Digits) → folded kind_of.Xor false n a b ≡ parity n a
folded_xor zero a b = refl
folded_xor (suc n) a b = (let e = folded_xor n a b in rw e refl)

-- one node is left
pub performs_one : (k to m : ℕ) (f g : Values → Bool) (b0 b1 : List Node) (s0 s1 : List ℕ) → Grown k b0 b1 → Written to 1 s0 s1 → ((j : ℕ) → j < 1 → slice_index_or s1 (to + j) 0 ≡ m) →
    Gives b1 m f g → Performs k 1 to (λ x. one_bit (f x)) (λ d. one_needs (g d)) b0 b1 s0 s1
performs_one k to m f g b0 b1 s0 s1 grown written at i = record { grown = grown; written = written; spells = here }
  where
    here : (j : ℕ) → j < 1 → Gives b1 (slice_index_or s1 (to + j) 0) (λ x. one_bit (f x) j) (λ d. one_needs (g d) j)
    here zero lt = (let P : ℕ → Type 0 = λ n. Gives b1 n f g in subst P (sym (at 0 (omega arith))) i)
    here (suc j) lt = absurd (omega arith)

pub one_weaker : (x y t : Bool) → (x ≡ true → y ≡ true) → cond {A = Bool} t x true ≡ true → cond {A = Bool} t y true ≡ true
one_weaker x y true h e = h e
one_weaker x y false h e = refl

-- one bit, said in another way
pub one_same : (k l to : ℕ) (f g f' g' : Values → Bool) (b0 b1 : List Node) (s0 s1 : List ℕ) → k ≤ l → ((x : Values) → Computes b1 x → f x ≡ f' x) →
    ((d : Values) → IsClosed b1 d → g' d ≡ true → g d ≡ true) → Performs k 1 to (λ x. one_bit (f x)) (λ d. one_needs (g d)) b0 b1 s0 s1 →
    Performs l 1 to (λ x. one_bit (f' x)) (λ d. one_needs (g' d)) b0 b1 s0 s1
one_same k l to f g f' g' b0 b1 s0 s1 le values has p =
    performs_same k l 1 1 to (λ x. one_bit (f x)) (λ d. one_needs (g d)) (λ x. one_bit (f' x)) (λ d. one_needs (g' d)) b0 b1 s0 s1 le refl
    (λ x c j lt. ap (λ t. one_bit t j) (values x c)) (λ d c j lt h. one_weaker (g' d) (g d) (j == 0) (has d c) h) p

module _ (kind : Kind) (negate s : Bool) (count start left right to cost : ℕ) (b0 b1 : List Node) (s0 s1 : List ℕ) where
  pub tested : (T : Values → Bool) → (HasConstants b1 → (x : Values) → Computes b1 x → x start ≡ s) → (HasConstants b1 → (d : Values) → IsClosed b1 d → d start ≡ true) →
      ((x : Values) → folded kind s count (seen x s0 left) (seen x s0 right) ≡ T x) → count * step_cost kind + cond {A = ℕ} negate 1 0 ≤ cost → HasConstants b1 →
      Performs (count * step_cost kind + cond {A = ℕ} negate 1 0) 1 to (λ x. one_bit (differ negate (folded kind (x start) count (seen x s0 left) (seen x s0 right))))
      (λ d. one_needs (d start && (all_ones count (seen d s0 left) && all_ones count (seen d s0 right)))) b0 b1 s0 s1 →
      Performs cost 1 to (λ x. one_bit (differ negate (T x))) (λ d. one_needs (all_ones count (seen d s0 left) && all_ones count (seen d s0 right))) b0 b1 s0 s1
  tested T value has same le base p =
      one_same (count * step_cost kind + cond {A = ℕ} negate 1 0) cost to
      (λ x. differ negate (folded kind (x start) count (seen x s0 left) (seen x s0 right))) (λ d. d start && (all_ones count (seen d s0 left) && all_ones count (seen d s0 right)))
      (λ x. differ negate (T x)) (λ d. all_ones count (seen d s0 left) && all_ones count (seen d s0 right)) b0 b1 s0 s1 le
      (λ x c. ap (λ t. differ negate (folded kind t count (seen x s0 left) (seen x s0 right))) (value base x c) ∙ ap (differ negate) (same x))
      (λ d c h. both_of (d start) (all_ones count (seen d s0 left) && all_ones count (seen d s0 right)) (has base d c) h) p

pub few_steps : (k : Kind) → step_cost k ≤ 4
few_steps kind_of.And = omega arith
few_steps kind_of.Or = omega arith
few_steps kind_of.Xor = omega arith
few_steps kind_of.Xnor = omega arith
few_steps kind_of.Not = omega arith
few_steps kind_of.Choose = omega arith
few_steps kind_of.Less = omega arith
few_steps kind_of.Equal = omega arith
few_steps kind_of.Sum = omega arith
few_steps kind_of.Carry = omega arith
