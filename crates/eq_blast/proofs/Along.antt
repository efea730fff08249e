-- One more bit of a row of gates.
use Rattle.std.proofs.Common.{◌≡◌, ℕ, suc, ◌+◌, ◌*◌, ◌<◌, List, Bool, true, ◌&&◌, cond, length, slice_index_or, inl, inr, arith, sym, ap, subst, ◌∙◌, add-one}
use Rattle.std.proofs.lemmas.Bool.{cases_lt}
use Rattle.eq_model.specs.System.{Values}
use Rattle.eq_bits.specs.declared.node.Node.{Node}
use Rattle.eq_net.specs.Numbers.{Digits, all_ones, differ}
use Rattle.eq_net.specs.Ripples.{carry}
use Rattle.eq_blast.specs.declared.gates.Kind.{Kind}
use Rattle.eq_blast.specs.declared.gates.Kind.TheVariants as kind_of
use Rattle.eq_blast.specs.inner.Growing.{Gives, Grown}
use Rattle.eq_blast.specs.inner.Stack.{Spells, Written, seen}
use Rattle.eq_blast.specs.inner.Steps.{folded, step_has, step_value}
use Rattle.eq_blast.proofs.Growth.{both_of, closed_before, computed_before, gives_still, grown_more, grown_twice, left_of, right_of}

-- one more step of the same cost
pub grown_next : (j c : ℕ) (a b d : List Node) → Grown (j * c) a b → Grown c b d → Grown ((j + 1) * c) a d
grown_next j c a b d g h = grown_more (j * c + c) ((j + 1) * c) a d (let e : (j + 1) * c ≡ j * c + c = omega arith in omega arith) (grown_twice (j * c) c a b d g h)

-- a gate whose operands are all in a set asks for no more
pub all_three : (k : Kind) (x y z : Bool) → x ≡ true → y ≡ true → z ≡ true → step_has k x y z ≡ true
all_three kind_of.And x y z ex ey ez = both_of x y ex ey
all_three kind_of.Or x y z ex ey ez = both_of x y ex ey
all_three kind_of.Xor x y z ex ey ez = both_of x y ex ey
all_three kind_of.Xnor x y z ex ey ez = both_of x y ex ey
all_three kind_of.Not x y z ex ey ez = ex
all_three kind_of.Choose x y z ex ey ez = both_of z (x && y) ez (both_of x y ex ey)
all_three kind_of.Less x y z ex ey ez = both_of (y && z) (z && x) (both_of y z ey ez) (both_of z x ez ex)
all_three kind_of.Equal x y z ex ey ez = both_of x (y && z) ex (both_of y z ey ez)
all_three kind_of.Sum x y z ex ey ez = both_of (x && y) z (both_of x y ex ey) ez
all_three kind_of.Carry x y z ex ey ez = both_of (x && y) (z && x) (both_of x y ex ey) (both_of z x ez ex)

module _ (s : Bool) (j : ℕ) (a b : Digits) (h : (s && (all_ones (suc j) a && all_ones (suc j) b)) ≡ true) where
  rest : (all_ones (suc j) a && all_ones (suc j) b) ≡ true
  rest = right_of s (all_ones (suc j) a && all_ones (suc j) b) h

  pub first_at : a j ≡ true
  first_at = right_of (all_ones j a) (a j) (left_of (all_ones (suc j) a) (all_ones (suc j) b) rest)

  pub second_at : b j ≡ true
  second_at = right_of (all_ones j b) (b j) (right_of (all_ones (suc j) a) (all_ones (suc j) b) rest)

  pub before_all : (s && (all_ones j a && all_ones j b)) ≡ true
  before_all = both_of s (all_ones j a && all_ones j b) (left_of s (all_ones (suc j) a && all_ones (suc j) b) h)
      (both_of (all_ones j a) (all_ones j b) (left_of (all_ones j a) (a j) (left_of (all_ones (suc j) a) (all_ones (suc j) b) rest))
      (left_of (all_ones j b) (b j) (right_of (all_ones (suc j) a) (all_ones (suc j) b) rest)))

module _ (stack : List ℕ) (left right : ℕ) where
  -- one more place of a value over all places
  pub fold_next : (k : Kind) (l : ℕ) (b1 b2 : List Node) (start j v w p q : ℕ) → Grown l b1 b2 →
      Gives b1 v (λ x. folded k (x start) j (seen x stack left) (seen x stack right)) (λ d. d start && (all_ones j (seen d stack left) && all_ones j (seen d stack right))) →
      p ≡ slice_index_or stack (left + j) 0 → q ≡ slice_index_or stack (right + j) 0 →
      Gives b2 w (λ x. step_value k (x v) (x p) (x q)) (λ d. step_has k (d v) (d p) (d q)) →
      Gives b2 w (λ x. folded k (x start) (j + 1) (seen x stack left) (seen x stack right)) (λ d. d start && (all_ones (j + 1) (seen d stack left) && all_ones (j + 1) (seen d stack right)))
  fold_next k l b1 b2 start j v w p q g old ep eq i =
      let P : ℕ → Type 0 = λ n. Gives b2 w (λ x. folded k (x start) n (seen x stack left) (seen x stack right)) (λ d. d start && (all_ones n (seen d stack left) && all_ones n (seen d stack right))) in
      subst P (sym (add-one j)) (record {
        there = i.there;
        value = λ x c. i.value x c ∙ ap (λ y. step_value k y (x p) (x q)) (old.value x (computed_before l b1 b2 g x c))
            ∙ ap (λ y. step_value k (folded k (x start) j (seen x stack left) (seen x stack right)) (x y) (x q)) ep
            ∙ ap (λ y. step_value k (folded k (x start) j (seen x stack left) (seen x stack right)) (seen x stack left j) (x y)) eq;
        has = λ d c h. i.has d c (all_three k (d v) (d p) (d q)
            (old.has d (closed_before l b1 b2 g d c) (before_all (d start) j (seen d stack left) (seen d stack right) h))
            (ap d ep ∙ first_at (d start) j (seen d stack left) (seen d stack right) h)
            (ap d eq ∙ second_at (d start) j (seen d stack left) (seen d stack right) h));
      })

  -- the carry into the next place
  pub carry_next : (l : ℕ) (b1 b2 : List Node) (start j v w p q : ℕ) → Grown l b1 b2 →
      Gives b1 v (λ x. carry (x start) (seen x stack left) (seen x stack right) j) (λ d. d start && (all_ones j (seen d stack left) && all_ones j (seen d stack right))) →
      p ≡ slice_index_or stack (left + j) 0 → q ≡ slice_index_or stack (right + j) 0 →
      Gives b2 w (λ x. cond {A = Bool} (differ (x p) (x q)) (x v) (x p)) (λ d. (d p && d q) && (d v && d p)) →
      Gives b2 w (λ x. carry (x start) (seen x stack left) (seen x stack right) (j + 1)) (λ d. d start && (all_ones (j + 1) (seen d stack left) && all_ones (j + 1) (seen d stack right)))
  carry_next l b1 b2 start j v w p q g old ep eq i =
      let P : ℕ → Type 0 = λ n. Gives b2 w (λ x. carry (x start) (seen x stack left) (seen x stack right) n) (λ d. d start && (all_ones n (seen d stack left) && all_ones n (seen d stack right))) in
      subst P (sym (add-one j)) (record {
        there = i.there;
        value = λ x c. i.value x c ∙ ap (λ y. cond {A = Bool} (differ (x p) (x q)) y (x p)) (old.value x (computed_before l b1 b2 g x c))
            ∙ ap (λ y. cond {A = Bool} (differ (x y) (x q)) (carry (x start) (seen x stack left) (seen x stack right) j) (x y)) ep
            ∙ ap (λ y. cond {A = Bool} (differ (seen x stack left j) (x y)) (carry (x start) (seen x stack left) (seen x stack right) j) (seen x stack left j)) eq;
        has = λ d c h. i.has d c (all_three kind_of.Carry (d p) (d q) (d v)
            (ap d ep ∙ first_at (d start) j (seen d stack left) (seen d stack right) h)
            (ap d eq ∙ second_at (d start) j (seen d stack left) (seen d stack right) h)
            (old.has d (closed_before l b1 b2 g d c) (before_all (d start) j (seen d stack left) (seen d stack right) h)));
      })

  -- the digit of a sum
  pub sum_here : (l : ℕ) (b1 b2 : List Node) (start j v w p q : ℕ) → Grown l b1 b2 →
      Gives b1 v (λ x. carry (x start) (seen x stack left) (seen x stack right) j) (λ d. d start && (all_ones j (seen d stack left) && all_ones j (seen d stack right))) →
      p ≡ slice_index_or stack (left + j) 0 → q ≡ slice_index_or stack (right + j) 0 →
      Gives b2 w (λ x. differ (differ (x p) (x q)) (x v)) (λ d. (d p && d q) && d v) →
      Gives b2 w (λ x. differ (differ (seen x stack left j) (seen x stack right j)) (carry (x start) (seen x stack left) (seen x stack right) j))
      (λ d. d start && (all_ones (suc j) (seen d stack left) && all_ones (suc j) (seen d stack right)))
  sum_here l b1 b2 start j v w p q g old ep eq i = record {
    there = i.there;
    value = λ x c. i.value x c ∙ ap (λ y. differ (differ (x p) (x q)) y) (old.value x (computed_before l b1 b2 g x c))
        ∙ ap (λ y. differ (differ (x y) (x q)) (carry (x start) (seen x stack left) (seen x stack right) j)) ep
        ∙ ap (λ y. differ (differ (seen x stack left j) (x y)) (carry (x start) (seen x stack left) (seen x stack right) j)) eq;
    has = λ d c h. i.has d c (all_three kind_of.Sum (d p) (d q) (d v)
        (ap d ep ∙ first_at (d start) j (seen d stack left) (seen d stack right) h)
        (ap d eq ∙ second_at (d start) j (seen d stack left) (seen d stack right) h)
        (old.has d (closed_before l b1 b2 g d c) (before_all (d start) j (seen d stack left) (seen d stack right) h)));
  }

  -- a gate of two places and one more node
  pub step_here : (k : Kind) (nodes : List Node) (j m p q z : ℕ) → p ≡ slice_index_or stack (left + j) 0 → q ≡ slice_index_or stack (right + j) 0 →
      Gives nodes m (λ x. step_value k (x p) (x q) (x z)) (λ d. step_has k (d p) (d q) (d z)) →
      Gives nodes m (λ x. step_value k (seen x stack left j) (seen x stack right j) (x z)) (λ d. step_has k (seen d stack left j) (seen d stack right j) (d z))
  step_here k nodes j m p q z ep eq i =
      let P : ℕ → Type 0 = λ n. Gives nodes m (λ x. step_value k (x n) (x q) (x z)) (λ d. step_has k (d n) (d q) (d z)) in
      let Q : ℕ → Type 0 = λ n. Gives nodes m (λ x. step_value k (seen x stack left j) (x n) (x z)) (λ d. step_has k (seen d stack left j) (d n) (d z)) in
      subst Q eq (subst P ep i)

-- ---- the stack

-- one node more on top
pub spells_next : (l : ℕ) (b1 b2 : List Node) (s1 s2 : List ℕ) (top j m : ℕ) (f g : Values → Digits) → Grown l b1 b2 → length s1 ≡ top + j →
    ((k : ℕ) → k < length s1 → slice_index_or s2 k 0 ≡ slice_index_or s1 k 0) → slice_index_or s2 (length s1) 0 ≡ m →
    Spells b1 s1 top j f g → Gives b2 m (λ x. f x j) (λ d. g d j) → Spells b2 s2 top (j + 1) f g
spells_next l b1 b2 s1 s2 top j m f g grown size below there old here i lt = elim (cases_lt i j) [
  | inl less ↦ (
      let P : ℕ → Type 0 = λ n. Gives b2 n (λ x. f x i) (λ d. g d i) in
      subst P (sym (below (top + i) (omega arith))) (gives_still l b1 b2 grown (slice_index_or s1 (top + i) 0) (λ x. f x i) (λ d. g d i) (old i less)))
  | inr more ↦ (
      let same : j ≡ i = omega arith in
      let P : ℕ → Type 0 = λ n. Gives b2 (slice_index_or s2 (top + n) 0) (λ x. f x n) (λ d. g d n) in
      let Q : ℕ → Type 0 = λ n. Gives b2 n (λ x. f x j) (λ d. g d j) in
      let at : slice_index_or s2 (top + j) 0 ≡ m = ap (λ n. slice_index_or s2 n 0) (sym size) ∙ there in
      subst P same (subst Q (sym at) here))
]

-- the same of what is kept below
pub written_next : (s0 s1 s2 : List ℕ) (top j : ℕ) → Written top j s0 s1 → length s2 ≡ length s1 + 1 → ((k : ℕ) → k < length s1 → slice_index_or s2 k 0 ≡ slice_index_or s1 k 0) →
    Written top (j + 1) s0 s2
written_next s0 s1 s2 top j w size below = record {
  size = (let s = w.size in omega arith);
  kept = λ k lt. below k (let s = w.size in omega arith) ∙ w.kept k lt;
}
