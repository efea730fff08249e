-- Sums, differences and negatives on the stack.
use Rattle.std.proofs.Common.{◌≡◌, ℕ, suc, ◌+◌, ◌-◌, ◌*◌, ◌^◌, ◌<◌, ◌≤◌, List, Bool, false, not, ◌&&◌, cond, length, slice_index_or, inl, inr, refl, arith, ap, ◌∙◌}
use Rattle.std.proofs.lemmas.Bool.{cases_lt}
use Rattle.eq_model.specs.System.{Values}
use Rattle.eq_bits.specs.declared.node.Node.{Node}
use Rattle.eq_net.specs.Numbers.{Digits, all_ones, differ, digit, number}
use Rattle.eq_net.specs.Operators.{apply, negative}
use Rattle.eq_net.specs.Ripples.{carry}
use Rattle.eq_net.specs.declared.types.WordOp.TheVariants as op
use Rattle.eq_blast.specs.inner.Growing.{Grown, HasConstants}
use Rattle.eq_blast.specs.inner.Needs.{needs}
use Rattle.eq_blast.specs.inner.Stack.{AreThere, Performs, Spells, Written, seen}
use Rattle.eq_blast.proofs.Growth.{both_of, closed_before, computed_before, grown_twice, left_of, right_of}
use Rattle.eq_blast.proofs.Performed.{all_same, one_has, one_value, performs_moved, performs_same, zero_has, zero_value}

-- the bits of a sum as gates make them
abbrev pub rippled : ℕ → List ℕ → ℕ → ℕ → Values → Digits
rippled start stack left right x j = differ (differ (seen x stack left j) (seen x stack right j)) (carry (x start) (seen x stack left) (seen x stack right) j)

abbrev pub rippled_has : ℕ → List ℕ → ℕ → ℕ → Values → Digits
rippled_has start stack left right d j = d start && (all_ones (suc j) (seen d stack left) && all_ones (suc j) (seen d stack right))

abbrev pub SumLaw : Type 0
SumLaw = (n j : ℕ) (c : Bool) (a b : Digits) → j < n → differ (differ (a j) (b j)) (carry c a b j) ≡ digit ((number n a + number n b) + cond {A = ℕ} c 1 0) j

abbrev pub NumberLaw : Type 0
NumberLaw = (n : ℕ) (f g : Digits) → ((i : ℕ) → i < n → f i ≡ g i) → number n f ≡ number n g

module _ (sums : SumLaw) where
  pub sum_performed : (m left right : ℕ) (b0 b1 : List Node) (s0 s1 s2 : List ℕ) → HasConstants b1 → left ≤ length s0 → Grown (m * 4) b0 b1 → Written (length s0) m s0 s1 →
      Spells b1 s1 (length s0) m (rippled 0 s0 left right) (rippled_has 0 s0 left right) → Written left m s1 s2 →
      ((j : ℕ) → j < m → slice_index_or s2 (left + j) 0 ≡ slice_index_or s1 (length s0 + j) 0) →
      Performs (5 * m) m left (λ x. apply op.Add m m (seen x s0 left) (seen x s0 right)) (λ d. needs op.Add m m (seen d s0 left) (seen d s0 right)) b0 b1 s0 s2
  sum_performed m left right b0 b1 s0 s1 s2 base le grown written spells down moved =
      performs_same (m * 4) (5 * m) m m left (rippled 0 s0 left right) (rippled_has 0 s0 left right)
      (λ x. apply op.Add m m (seen x s0 left) (seen x s0 right)) (λ d. needs op.Add m m (seen d s0 left) (seen d s0 right)) b0 b1 s0 s2 (omega arith) refl
      (λ x c j lt. (let e : (number m (seen x s0 left) + number m (seen x s0 right)) + 0 ≡ number m (seen x s0 left) + number m (seen x s0 right) = omega arith in
      sums m j (x 0) (seen x s0 left) (seen x s0 right) lt
      ∙ ap (λ (t : Bool). digit ((number m (seen x s0 left) + number m (seen x s0 right)) + cond {A = ℕ} t 1 0) j) (zero_value b1 base x c) ∙ ap (λ n. digit n j) e))
      (λ d c j lt h. both_of (d 0) (all_ones (suc j) (seen d s0 left) && all_ones (suc j) (seen d s0 right)) (zero_has b1 base d c) h)
      (performs_moved (m * 4) m (length s0) left (rippled 0 s0 left right) (rippled_has 0 s0 left right) b0 b1 s0 s1 s2 le grown written spells down moved)

module _ (sums : SumLaw) (numbers : NumberLaw) where
  pub difference_performed : ((n : ℕ) (a b : Digits) → (number n a + number n (λ i. not (b i))) + 1 ≡ (2 ^ n + number n a) - number n b) →
      (m left right : ℕ) (b0 b1 b2 : List Node) (s0 s1 s2 s3 : List ℕ) → HasConstants b2 → left + m ≡ right → length s0 ≡ right + m →
      Performs m m right (λ x j. not (seen x s0 right j)) (λ d j. seen d s0 right j) b0 b1 s0 s1 →
      Grown (m * 4) b1 b2 → Written (length s1) m s1 s2 → Spells b2 s2 (length s1) m (rippled 1 s1 left right) (rippled_has 1 s1 left right) → Written left m s2 s3 →
      ((j : ℕ) → j < m → slice_index_or s3 (left + j) 0 ≡ slice_index_or s2 (length s1 + j) 0) →
      Performs (6 * m) m left (λ x. apply op.Sub m m (seen x s0 left) (seen x s0 right)) (λ d. needs op.Sub m m (seen d s0 left) (seen d s0 right)) b0 b2 s0 s3
  difference_performed minus m left right b0 b1 b2 s0 s1 s2 s3 base order size p grown written spells down moved =
      let q = performs_moved (m + m * 4) m (length s1) left (rippled 1 s1 left right) (rippled_has 1 s1 left right) b0 b2 s1 s2 s3 (let s = p.written.size in omega arith)
      (grown_twice m (m * 4) b0 b1 b2 p.grown grown) written spells down moved in
      let r : Performs (m + m * 4) m left (rippled 1 s1 left right) (rippled_has 1 s1 left right) b0 b2 s0 s3 = record {
        grown = q.grown;
        written = record { size = q.written.size; kept = λ k lt. q.written.kept k lt ∙ p.written.kept k (omega arith) };
        spells = q.spells;
      } in
      performs_same (m + m * 4) (6 * m) m m left (rippled 1 s1 left right) (rippled_has 1 s1 left right)
      (λ x. apply op.Sub m m (seen x s0 left) (seen x s0 right)) (λ d. needs op.Sub m m (seen d s0 left) (seen d s0 right)) b0 b2 s0 s3 (omega arith) refl
      (λ x c j lt. (
      let first = numbers m (seen x s1 left) (seen x s0 left) (λ i li. ap x (p.written.kept (left + i) (omega arith))) in
      let second = numbers m (seen x s1 right) (λ i. not (seen x s0 right i)) (λ i li. (p.spells i li).value x (computed_before (m * 4) b1 b2 grown x c)) in
      sums m j (x 1) (seen x s1 left) (seen x s1 right) lt
      ∙ ap (λ (t : Bool). digit ((number m (seen x s1 left) + number m (seen x s1 right)) + cond {A = ℕ} t 1 0) j) (one_value b2 base x c)
      ∙ ap (λ n. digit ((n + number m (seen x s1 right)) + 1) j) first ∙ ap (λ n. digit ((number m (seen x s0 left) + n) + 1) j) second
      ∙ ap (λ n. digit n j) (minus m (seen x s0 left) (seen x s0 right))))
      (λ d c j lt h. (
      let n = left_of (all_ones (suc j) (seen d s0 left)) (all_ones (suc j) (seen d s0 right)) h in
      let o = right_of (all_ones (suc j) (seen d s0 left)) (all_ones (suc j) (seen d s0 right)) h in
      both_of (d 1) (all_ones (suc j) (seen d s1 left) && all_ones (suc j) (seen d s1 right)) (one_has b2 base d c)
      (both_of (all_ones (suc j) (seen d s1 left)) (all_ones (suc j) (seen d s1 right))
      (all_same (suc j) (seen d s0 left) (seen d s1 left) (λ i li e. ap d (p.written.kept (left + i) (omega arith)) ∙ e) n)
      (all_same (suc j) (seen d s0 right) (seen d s1 right) (λ i li e. (p.spells i (omega arith)).has d (closed_before (m * 4) b1 b2 grown d c) e) o))))
      r

  pub negative_performed : ((n : ℕ) (z a : Digits) → ((i : ℕ) → i < n → z i ≡ false) → (number n z + number n (λ i. not (a i))) + 1 ≡ 2 ^ n - number n a) →
      (m from : ℕ) (b0 b1 b2 : List Node) (s0 s1 s2 s3 s4 : List ℕ) → HasConstants b2 → length s0 ≡ from + m →
      Performs m m from (λ x j. not (seen x s0 from j)) (λ d j. seen d s0 from j) b0 b1 s0 s1 →
      Written (length s1) m s1 s2 → ((j : ℕ) → length s1 ≤ j → j < length s2 → slice_index_or s2 j 0 ≡ 0) →
      Grown (m * 4) b1 b2 → Written (length s2) m s2 s3 → Spells b2 s3 (length s2) m (rippled 1 s2 (length s1) from) (rippled_has 1 s2 (length s1) from) → Written from m s3 s4 →
      ((j : ℕ) → j < m → slice_index_or s4 (from + j) 0 ≡ slice_index_or s3 (length s2 + j) 0) →
      Performs (6 * m) m from (λ x. negative m (seen x s0 from)) (λ d j. all_ones (suc j) (seen d s0 from)) b0 b2 s0 s4
  negative_performed minus m from b0 b1 b2 s0 s1 s2 s3 s4 base size p zeros none grown written spells down moved =
      let zs : length s2 ≡ length s1 + m = zeros.size in
      let os : length s1 ≡ from + m = p.written.size in
      let q = performs_moved (m + m * 4) m (length s2) from (rippled 1 s2 (length s1) from) (rippled_has 1 s2 (length s1) from) b0 b2 s2 s3 s4 (omega arith)
      (grown_twice m (m * 4) b0 b1 b2 p.grown grown) written spells down moved in
      let r : Performs (m + m * 4) m from (rippled 1 s2 (length s1) from) (rippled_has 1 s2 (length s1) from) b0 b2 s0 s4 = record {
        grown = q.grown;
        written = record { size = q.written.size; kept = λ k lt. q.written.kept k lt ∙ zeros.kept k (omega arith) ∙ p.written.kept k lt };
        spells = q.spells;
      } in
      performs_same (m + m * 4) (6 * m) m m from (rippled 1 s2 (length s1) from) (rippled_has 1 s2 (length s1) from)
      (λ x. negative m (seen x s0 from)) (λ d j. all_ones (suc j) (seen d s0 from)) b0 b2 s0 s4 (omega arith) refl
      (λ x c j lt. (
      let second = numbers m (seen x s2 from) (λ i. not (seen x s0 from i)) (λ i li. ap x (zeros.kept (from + i) (omega arith)) ∙ (p.spells i li).value x (computed_before (m * 4) b1 b2 grown x c)) in
      sums m j (x 1) (seen x s2 (length s1)) (seen x s2 from) lt
      ∙ ap (λ (t : Bool). digit ((number m (seen x s2 (length s1)) + number m (seen x s2 from)) + cond {A = ℕ} t 1 0) j) (one_value b2 base x c)
      ∙ ap (λ n. digit ((number m (seen x s2 (length s1)) + n) + 1) j) second
      ∙ ap (λ n. digit n j) (minus m (seen x s2 (length s1)) (seen x s0 from) (λ i li. ap x (none (length s1 + i) (omega arith) (omega arith)) ∙ zero_value b2 base x c))))
      (λ d c j lt h.
      both_of (d 1) (all_ones (suc j) (seen d s2 (length s1)) && all_ones (suc j) (seen d s2 from)) (one_has b2 base d c)
      (both_of (all_ones (suc j) (seen d s2 (length s1))) (all_ones (suc j) (seen d s2 from))
      (all_same (suc j) (seen d s0 from) (seen d s2 (length s1)) (λ i li e. ap d (none (length s1 + i) (omega arith) (omega arith)) ∙ zero_has b2 base d c) h)
      (all_same (suc j) (seen d s0 from) (seen d s2 from) (λ i li e. ap d (zeros.kept (from + i) (omega arith)) ∙ (p.spells i (omega arith)).has d (closed_before (m * 4) b1 b2 grown d c) e) h)))
      r

-- zeros on top
pub there_zeros : (m : ℕ) (b : List Node) (s1 s2 : List ℕ) → 0 < length b → AreThere b s1 → Written (length s1) m s1 s2 → ((j : ℕ) → length s1 ≤ j → j < length s2 → slice_index_or s2 j 0 ≡ 0) →
    AreThere b s2
there_zeros m b s1 s2 some there written none i lt = elim (cases_lt i (length s1)) [
  | inl less ↦ (let e = written.kept i less in let h = there i less in omega arith)
  | inr more ↦ (let e = none i more lt in omega arith)
]
