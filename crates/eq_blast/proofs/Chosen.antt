-- A choice of two words by a third.
use Rattle.std.proofs.Common.{◌≡◌, ℕ, ◌+◌, ◌-◌, ◌<◌, List, true, ◌&&◌, length, refl, arith, ap, subst, ◌∙◌}
use Rattle.eq_model.specs.System.{Values}
use Rattle.eq_bits.specs.declared.node.Node.{Node}
use Rattle.eq_net.specs.Numbers.{Digits, all_ones}
use Rattle.eq_net.specs.Operators.{choose, choose_cost}
use Rattle.eq_blast.specs.inner.Wiring.{Computes, IsClosed}
use Rattle.eq_blast.specs.inner.Needs.{choose_needs}
use Rattle.eq_blast.specs.inner.Stack.{Performs, seen}
use Rattle.eq_blast.proofs.Growth.{both_of, closed_before, computed_before, grown_twice, left_of, right_of}
use Rattle.eq_blast.proofs.Performed.{all_same, performs_same}

module _ (u v k l m : ℕ) (fc hc fa ha fb hb : Values → Digits) (b0 b1 b2 b3 : List Node) (s0 s1 s2 s3 : List ℕ)
    (p : Performs k u (length s0) fc hc b0 b1 s0 s1) (q : Performs l v (length s1) fa ha b1 b2 s1 s2) (r : Performs m v (length s2) fb hb b2 b3 s2 s3) where
  pub chosen_word : ((n w j : ℕ) (c d a b e g : Digits) → ((i : ℕ) → i < n → c i ≡ d i) → ((i : ℕ) → i < w → a i ≡ e i) → ((i : ℕ) → i < w → b i ≡ g i) → j < w → choose n c a b j ≡ choose n d e g j) →
      (from left right : ℕ) (b4 : List Node) (s4 : List ℕ) → from ≡ length s0 → left ≡ length s1 → right ≡ length s2 →
      Performs (choose_cost (left - from) (right - left)) (right - left) from (λ x. choose (left - from) (seen x s3 from) (seen x s3 left) (seen x s3 right))
      (λ d. choose_needs (left - from) (seen d s3 from) (seen d s3 left) (seen d s3 right)) b3 b4 s3 s4 →
      Performs ((k + (l + m)) + choose_cost u v) v (length s0) (λ x. choose u (fc x) (fa x) (fb x)) (λ d. choose_needs u (hc d) (ha d) (hb d)) b0 b4 s0 s4
  chosen_word law from left right b4 s4 ef el er o =
      let su : length s1 - length s0 ≡ u = (let s = p.written.size in omega arith) in
      let sv : length s2 - length s1 ≡ v = (let s = q.written.size in omega arith) in
      let ps = p.written.size in
      let qs = q.written.size in
      let P : ℕ → ℕ → ℕ → ℕ → ℕ → Type 0 = λ a b c n w. Performs (choose_cost n w) w a (λ x. choose n (seen x s3 a) (seen x s3 b) (seen x s3 c)) (λ d. choose_needs n (seen d s3 a) (seen d s3 b) (seen d s3 c)) b3 b4 s3 s4 in
      let A : ℕ → Type 0 = λ a. P a left right (left - a) (right - left) in
      let B : ℕ → Type 0 = λ b. P (length s0) b right (b - length s0) (right - b) in
      let C : ℕ → Type 0 = λ c. P (length s0) (length s1) c (length s1 - length s0) (c - length s1) in
      let D : ℕ → Type 0 = λ n. P (length s0) (length s1) (length s2) n (length s2 - length s1) in
      let E : ℕ → Type 0 = λ w. P (length s0) (length s1) (length s2) u w in
      let t = subst E sv (subst D su (subst C er (subst B el (subst A ef o)))) in
      let cv : (x : Values) → Computes b4 x → (i : ℕ) → i < u → seen x s3 (length s0) i ≡ fc x i = λ x c i lt.
      ap x (r.written.kept (length s0 + i) (omega arith) ∙ q.written.kept (length s0 + i) (omega arith))
      ∙ (p.spells i lt).value x (computed_before l b1 b2 q.grown x (computed_before m b2 b3 r.grown x (computed_before (choose_cost u v) b3 b4 t.grown x c))) in
      let av : (x : Values) → Computes b4 x → (i : ℕ) → i < v → seen x s3 (length s1) i ≡ fa x i = λ x c i lt.
      ap x (r.written.kept (length s1 + i) (omega arith)) ∙ (q.spells i lt).value x (computed_before m b2 b3 r.grown x (computed_before (choose_cost u v) b3 b4 t.grown x c)) in
      let bv : (x : Values) → Computes b4 x → (i : ℕ) → i < v → seen x s3 (length s2) i ≡ fb x i = λ x c i lt.
      (r.spells i lt).value x (computed_before (choose_cost u v) b3 b4 t.grown x c) in
      let ch : (d : Values) → IsClosed b4 d → (i : ℕ) → i < u → hc d i ≡ true → seen d s3 (length s0) i ≡ true = λ d c i lt e.
      ap d (r.written.kept (length s0 + i) (omega arith) ∙ q.written.kept (length s0 + i) (omega arith))
      ∙ (p.spells i lt).has d (closed_before l b1 b2 q.grown d (closed_before m b2 b3 r.grown d (closed_before (choose_cost u v) b3 b4 t.grown d c))) e in
      let ah : (d : Values) → IsClosed b4 d → (i : ℕ) → i < v → ha d i ≡ true → seen d s3 (length s1) i ≡ true = λ d c i lt e.
      ap d (r.written.kept (length s1 + i) (omega arith)) ∙ (q.spells i lt).has d (closed_before m b2 b3 r.grown d (closed_before (choose_cost u v) b3 b4 t.grown d c)) e in
      let bh : (d : Values) → IsClosed b4 d → (i : ℕ) → i < v → hb d i ≡ true → seen d s3 (length s2) i ≡ true = λ d c i lt e.
      (r.spells i lt).has d (closed_before (choose_cost u v) b3 b4 t.grown d c) e in
      let w = performs_same (choose_cost u v) (choose_cost u v) v v (length s0)
      (λ x. choose u (seen x s3 (length s0)) (seen x s3 (length s1)) (seen x s3 (length s2))) (λ d. choose_needs u (seen d s3 (length s0)) (seen d s3 (length s1)) (seen d s3 (length s2)))
      (λ x. choose u (fc x) (fa x) (fb x)) (λ d. choose_needs u (hc d) (ha d) (hb d)) b3 b4 s3 s4 (omega arith) refl
      (λ x c j lt. law u v j (seen x s3 (length s0)) (fc x) (seen x s3 (length s1)) (seen x s3 (length s2)) (fa x) (fb x) (cv x c) (av x c) (bv x c) lt)
      (λ d c j lt e. (
      let rest = right_of (all_ones u (hc d)) (ha d j && hb d j) e in
      both_of (all_ones u (seen d s3 (length s0))) (seen d s3 (length s1) j && seen d s3 (length s2) j) (all_same u (hc d) (seen d s3 (length s0)) (ch d c) (left_of (all_ones u (hc d)) (ha d j && hb d j) e))
      (both_of (seen d s3 (length s1) j) (seen d s3 (length s2) j) (ah d c j lt (left_of (ha d j) (hb d j) rest)) (bh d c j lt (right_of (ha d j) (hb d j) rest))))) t in
      record {
        grown = grown_twice (k + (l + m)) (choose_cost u v) b0 b3 b4 (grown_twice k (l + m) b0 b1 b3 p.grown (grown_twice l m b1 b2 b3 q.grown r.grown)) w.grown;
        written = record {
          size = w.written.size;
          kept = λ j lt. w.written.kept j lt ∙ r.written.kept j (omega arith) ∙ q.written.kept j (omega arith) ∙ p.written.kept j lt;
        };
        spells = w.spells;
      }
