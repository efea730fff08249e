-- Operations on the stack: results that are moved into the place of their operands, and said in another way.
use Rattle.std.proofs.Common.{◌≡◌, ℕ, zero, suc, ◌+◌, ◌-◌, ◌<◌, ◌≤◌, List, Bool, true, false, length, slice_index_or, inl, inr, refl, arith, sym, ap, subst, ◌∙◌}
use Rattle.std.proofs.lemmas.Bool.{cases_lt}
use Rattle.eq_model.specs.System.{Values, Meets}
use Rattle.eq_bits.specs.declared.node.Node.{Node}
use Rattle.eq_bits.specs.declared.node.Node.TheVariants.{Const}
use Rattle.eq_bits.specs.Node.{driver_of, node_at}
use Rattle.eq_bits.specs.Shared.{is_gate}
use Rattle.eq_net.specs.Numbers.{Digits, all_ones}
use Rattle.eq_blast.specs.inner.Wiring.{Computes, HasOperands, IsClosed}
use Rattle.eq_blast.specs.inner.Growing.{Gives, Grown, HasConstants}
use Rattle.eq_blast.specs.inner.Stack.{AreThere, Performs, Spells, Written}
use Rattle.eq_blast.proofs.Growth.{both_of, grown_more, left_of, right_of}

-- ---- the constants

constant_value : (nodes : List Node) (m : ℕ) (b : Bool) → m < length nodes → node_at nodes m ≡ Const b → (x : Values) → Computes nodes x → x m ≡ b
constant_value nodes m b lt at x c =
    let P : Node → Type 0 = λ n. Meets (driver_of n) x (x m) in
    subst P at (c m lt (ap is_gate at))

constant_has : (nodes : List Node) (m : ℕ) (b : Bool) → m < length nodes → node_at nodes m ≡ Const b → (d : Values) → IsClosed nodes d → d m ≡ true
constant_has nodes m b lt at d c =
    let P : Node → Type 0 = λ n. HasOperands d n in
    c m lt (ap is_gate at) (subst P (sym at) tt)

module _ (nodes : List Node) (h : HasConstants nodes) where
  pub zero_value : (x : Values) → Computes nodes x → x 0 ≡ false
  zero_value = constant_value nodes 0 false (let r = h.room in omega arith) h.zero_node

  pub one_value : (x : Values) → Computes nodes x → x 1 ≡ true
  one_value = constant_value nodes 1 true (let r = h.room in omega arith) h.one_node

  pub zero_has : (d : Values) → IsClosed nodes d → d 0 ≡ true
  zero_has = constant_has nodes 0 false (let r = h.room in omega arith) h.zero_node

  pub one_has : (d : Values) → IsClosed nodes d → d 1 ≡ true
  one_has = constant_has nodes 1 true (let r = h.room in omega arith) h.one_node

-- ---- all of many

pub all_each : (n : ℕ) (f : Digits) → all_ones n f ≡ true → (i : ℕ) → i < n → f i ≡ true
all_each zero f h i lt = absurd (omega arith)
all_each (suc n) f h i lt = elim (cases_lt i n) [
  | inl less ↦ all_each n f (left_of (all_ones n f) (f n) h) i less
  | inr more ↦ (
      let same : n ≡ i = omega arith in
      let P : ℕ → Type 0 = λ k. f k ≡ true in
      subst P same (right_of (all_ones n f) (f n) h))
]

pub all_from : (n : ℕ) (f : Digits) → ((i : ℕ) → i < n → f i ≡ true) → all_ones n f ≡ true
all_from zero f h = refl
all_from (suc n) f h = both_of (all_ones n f) (f n) (all_from n f (λ i lt. h i (omega arith))) (h n (omega arith))

pub all_same : (n : ℕ) (f g : Digits) → ((i : ℕ) → i < n → f i ≡ true → g i ≡ true) → all_ones n f ≡ true → all_ones n g ≡ true
all_same n f g h a = all_from n g (λ i lt. h i lt (all_each n f a i lt))

-- ---- the stack

pub there_after : (k w : ℕ) (b0 b1 : List Node) (s0 s1 : List ℕ) (f g : Values → Digits) → AreThere b0 s0 → Grown k b0 b1 → Written (length s0) w s0 s1 →
    Spells b1 s1 (length s0) w f g → AreThere b1 s1
there_after k w b0 b1 s0 s1 f g there grown written spells i lt = elim (cases_lt i (length s0)) [
  | inl less ↦ (let e = written.kept i less in let h = there i less in let s = grown.size in omega arith)
  | inr more ↦ (
      let same : length s0 + (i - length s0) ≡ i = omega arith in
      let P : ℕ → Type 0 = λ n. slice_index_or s1 n 0 < length b1 in
      subst P same ((spells (i - length s0) (let s = written.size in omega arith)).there))
]

-- the same with any place
pub there_from : (k w from : ℕ) (b0 b1 : List Node) (s0 s1 : List ℕ) (f g : Values → Digits) → from ≤ length s0 → AreThere b0 s0 → Performs k w from f g b0 b1 s0 s1 → AreThere b1 s1
there_from k w from b0 b1 s0 s1 f g le there p i lt = elim (cases_lt i from) [
  | inl less ↦ (let e = p.written.kept i less in let h = there i (omega arith) in let s = p.grown.size in omega arith)
  | inr more ↦ (
      let same : from + (i - from) ≡ i = omega arith in
      let P : ℕ → Type 0 = λ n. slice_index_or s1 n 0 < length b1 in
      subst P same ((p.spells (i - from) (let s = p.written.size in omega arith)).there))
]

-- what stands on top is moved down
pub performs_moved : (k w top to : ℕ) (f g : Values → Digits) (b0 b1 : List Node) (s0 s1 s2 : List ℕ) → to ≤ top → Grown k b0 b1 → Written top w s0 s1 → Spells b1 s1 top w f g →
    Written to w s1 s2 → ((j : ℕ) → j < w → slice_index_or s2 (to + j) 0 ≡ slice_index_or s1 (top + j) 0) → Performs k w to f g b0 b1 s0 s2
performs_moved k w top to f g b0 b1 s0 s1 s2 le grown written spells down moved = record {
  grown = grown;
  written = record { size = down.size; kept = λ i lt. down.kept i lt ∙ written.kept i (omega arith) };
  spells = λ j lt. (let P : ℕ → Type 0 = λ n. Gives b1 n (λ x. f x j) (λ d. g d j) in subst P (sym (moved j lt)) (spells j lt));
}

-- the same, said in another way
pub performs_same : (k l w v from : ℕ) (f g h i : Values → Digits) (b0 b1 : List Node) (s0 s1 : List ℕ) → k ≤ l → w ≡ v →
    ((x : Values) → Computes b1 x → (j : ℕ) → j < w → f x j ≡ h x j) → ((d : Values) → IsClosed b1 d → (j : ℕ) → j < w → i d j ≡ true → g d j ≡ true) →
    Performs k w from f g b0 b1 s0 s1 → Performs l v from h i b0 b1 s0 s1
performs_same k l w v from f g h i b0 b1 s0 s1 le width values has p = record {
  grown = grown_more k l b0 b1 le p.grown;
  written = record { size = (let s = p.written.size in omega arith); kept = p.written.kept };
  spells = λ j lt. (let q = p.spells j (omega arith) in record {
    there = q.there;
    value = λ x c. q.value x c ∙ values x c j (omega arith);
    has = λ d c n. q.has d c (has d c j (omega arith) n);
  });
}
