-- Sums, differences and negatives as rows of cells.
use Rattle.std.proofs.Common.{◌≡◌, ℕ, ◌+◌, ◌-◌, ◌^◌, ◌<◌, ◌≤◌, List, Bool, false, not, cond, length, slice_index_or, refl, arith, ap, ◌∙◌}
use Rattle.eq_net.specs.declared.cells.gates.Cell.{Cell}
use Rattle.eq_net.specs.declared.types.WordOp.TheVariants as op
use Rattle.eq_net.specs.Numbers.{Digits, differ, digit, number}
use Rattle.eq_net.specs.Operators.{apply, negative}
use Rattle.eq_net.specs.Ripples.{carry}
use Rattle.eq_net.specs.inner.Cells.{Valuation, Grown, Performs, Spells, Written, seen}
use Rattle.eq_net.proofs.Cellular.{grown_twice, performs_moved, performs_same}

-- the bits of a sum as cells make them
abbrev pub rippled : ℕ → List ℕ → ℕ → ℕ → Valuation → Digits
rippled start stack left right v j = differ (differ (seen v stack left j) (seen v stack right j)) (carry (v.cells start) (seen v stack left) (seen v stack right) j)

abbrev pub SumLaw : Type 0
SumLaw = (n j : ℕ) (c : Bool) (a b : Digits) → j < n → differ (differ (a j) (b j)) (carry c a b j) ≡ digit ((number n a + number n b) + cond {A = ℕ} c 1 0) j

abbrev pub NumberLaw : Type 0
NumberLaw = (n : ℕ) (f g : Digits) → ((i : ℕ) → i < n → f i ≡ g i) → number n f ≡ number n g

module _ (sums : SumLaw) where
  pub sum_performed : (m left right : ℕ) (c0 c1 : List Cell) (s0 s1 s2 : List ℕ) → left ≤ length s0 → Grown c0 c1 → Written (length s0) m s0 s1 →
      Spells c1 s1 (length s0) m (rippled 0 s0 left right) → Written left m s1 s2 →
      ((j : ℕ) → j < m → slice_index_or s2 (left + j) 0 ≡ slice_index_or s1 (length s0 + j) 0) →
      Performs m left (λ v. apply op.Add m m (seen v s0 left) (seen v s0 right)) c0 c1 s0 s2
  sum_performed m left right c0 c1 s0 s1 s2 le grown written spells down moved =
      performs_same m m left (rippled 0 s0 left right) (λ v. apply op.Add m m (seen v s0 left) (seen v s0 right)) c0 c1 s0 s2 refl
      (λ v c j lt. (let e : (number m (seen v s0 left) + number m (seen v s0 right)) + 0 ≡ number m (seen v s0 left) + number m (seen v s0 right) = omega arith in
      sums m j (v.cells 0) (seen v s0 left) (seen v s0 right) lt
      ∙ ap (λ (t : Bool). digit ((number m (seen v s0 left) + number m (seen v s0 right)) + cond {A = ℕ} t 1 0) j) c.false_first ∙ ap (λ n. digit n j) e))
      (performs_moved m (length s0) left (rippled 0 s0 left right) c0 c1 s0 s1 s2 le grown written spells down moved)

module _ (sums : SumLaw) (numbers : NumberLaw) where
  pub difference_performed : ((n : ℕ) (a b : Digits) → (number n a + number n (λ i. not (b i))) + 1 ≡ (2 ^ n + number n a) - number n b) →
      (m left right : ℕ) (c0 c1 c2 : List Cell) (s0 s1 s2 s3 : List ℕ) → left + m ≡ right → length s0 ≡ right + m →
      Performs m right (λ v j. not (seen v s0 right j)) c0 c1 s0 s1 →
      Grown c1 c2 → Written (length s1) m s1 s2 → Spells c2 s2 (length s1) m (rippled 1 s1 left right) → Written left m s2 s3 →
      ((j : ℕ) → j < m → slice_index_or s3 (left + j) 0 ≡ slice_index_or s2 (length s1 + j) 0) →
      Performs m left (λ v. apply op.Sub m m (seen v s0 left) (seen v s0 right)) c0 c2 s0 s3
  difference_performed minus m left right c0 c1 c2 s0 s1 s2 s3 order size p grown written spells down moved =
      let q = performs_moved m (length s1) left (rippled 1 s1 left right) c0 c2 s1 s2 s3 (let s = p.written.size in omega arith)
      (grown_twice c0 c1 c2 p.grown grown) written spells down moved in
      let r : Performs m left (rippled 1 s1 left right) c0 c2 s0 s3 = record {
        grown = q.grown;
        written = record { size = q.written.size; kept = λ k lt. q.written.kept k lt ∙ p.written.kept k (omega arith) };
        spells = q.spells;
      } in
      performs_same m m left (rippled 1 s1 left right) (λ v. apply op.Sub m m (seen v s0 left) (seen v s0 right)) c0 c2 s0 s3 refl
      (λ v c j lt. (
      let first = numbers m (seen v s1 left) (seen v s0 left) (λ i li. ap v.cells (p.written.kept (left + i) (omega arith))) in
      let second = numbers m (seen v s1 right) (λ i. not (seen v s0 right i)) (λ i li. (p.spells i li).value v (grown.before v c)) in
      sums m j (v.cells 1) (seen v s1 left) (seen v s1 right) lt
      ∙ ap (λ (t : Bool). digit ((number m (seen v s1 left) + number m (seen v s1 right)) + cond {A = ℕ} t 1 0) j) c.then_true
      ∙ ap (λ n. digit ((n + number m (seen v s1 right)) + 1) j) first ∙ ap (λ n. digit ((number m (seen v s0 left) + n) + 1) j) second
      ∙ ap (λ n. digit n j) (minus m (seen v s0 left) (seen v s0 right))))
      r

  pub negative_performed : ((n : ℕ) (z a : Digits) → ((i : ℕ) → i < n → z i ≡ false) → (number n z + number n (λ i. not (a i))) + 1 ≡ 2 ^ n - number n a) →
      (m from : ℕ) (c0 c1 c2 : List Cell) (s0 s1 s2 s3 s4 : List ℕ) → length s0 ≡ from + m →
      Performs m from (λ v j. not (seen v s0 from j)) c0 c1 s0 s1 →
      Written (length s1) m s1 s2 → ((j : ℕ) → length s1 ≤ j → j < length s2 → slice_index_or s2 j 0 ≡ 0) →
      Grown c1 c2 → Written (length s2) m s2 s3 → Spells c2 s3 (length s2) m (rippled 1 s2 (length s1) from) → Written from m s3 s4 →
      ((j : ℕ) → j < m → slice_index_or s4 (from + j) 0 ≡ slice_index_or s3 (length s2 + j) 0) →
      Performs m from (λ v. negative m (seen v s0 from)) c0 c2 s0 s4
  negative_performed minus m from c0 c1 c2 s0 s1 s2 s3 s4 size p zeros none grown written spells down moved =
      let zs : length s2 ≡ length s1 + m = zeros.size in
      let os : length s1 ≡ from + m = p.written.size in
      let q = performs_moved m (length s2) from (rippled 1 s2 (length s1) from) c0 c2 s2 s3 s4 (omega arith)
      (grown_twice c0 c1 c2 p.grown grown) written spells down moved in
      let r : Performs m from (rippled 1 s2 (length s1) from) c0 c2 s0 s4 = record {
        grown = q.grown;
        written = record { size = q.written.size; kept = λ k lt. q.written.kept k lt ∙ zeros.kept k (omega arith) ∙ p.written.kept k lt };
        spells = q.spells;
      } in
      performs_same m m from (rippled 1 s2 (length s1) from) (λ v. negative m (seen v s0 from)) c0 c2 s0 s4 refl
      (λ v c j lt. (
      let second = numbers m (seen v s2 from) (λ i. not (seen v s0 from i)) (λ i li. ap v.cells (zeros.kept (from + i) (omega arith)) ∙ (p.spells i li).value v (grown.before v c)) in
      sums m j (v.cells 1) (seen v s2 (length s1)) (seen v s2 from) lt
      ∙ ap (λ (t : Bool). digit ((number m (seen v s2 (length s1)) + number m (seen v s2 from)) + cond {A = ℕ} t 1 0) j) c.then_true
      ∙ ap (λ n. digit ((number m (seen v s2 (length s1)) + n) + 1) j) second
      ∙ ap (λ n. digit n j) (minus m (seen v s2 (length s1)) (seen v s0 from) (λ i li. ap v.cells (none (length s1 + i) (omega arith) (omega arith)) ∙ c.false_first))))
      r
