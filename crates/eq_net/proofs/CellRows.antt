-- One more bit of a row of cells.
use Rattle.std.proofs.Common.{◌≡◌, ℕ, ◌+◌, ◌<◌, List, Bool, cond, length, slice_index_or, inl, inr, arith, sym, ap, subst, ◌∙◌, add-one}
use Rattle.std.proofs.lemmas.Bool.{cases_lt}
use Rattle.eq_net.specs.declared.cells.gates.Cell.{Cell}
use Rattle.eq_net.specs.declared.cells.gates.Kind.{Kind}
use Rattle.eq_net.specs.Numbers.{Digits, differ}
use Rattle.eq_net.specs.Ripples.{carry}
use Rattle.eq_net.specs.inner.Cells.{Valuation, Gives, Grown, Spells, Written, seen}
use Rattle.eq_net.specs.inner.CellSteps.{folded, step_value}
use Rattle.eq_net.proofs.Cellular.{gives_still}

module _ (stack : List ℕ) (left right : ℕ) where
  -- one more place of a value over all places
  pub fold_next : (k : Kind) (c1 c2 : List Cell) (start j u w p q : ℕ) → Grown c1 c2 →
      Gives c1 u (λ v. folded k (v.cells start) j (seen v stack left) (seen v stack right)) →
      p ≡ slice_index_or stack (left + j) 0 → q ≡ slice_index_or stack (right + j) 0 →
      Gives c2 w (λ v. step_value k (v.cells u) (v.cells p) (v.cells q)) →
      Gives c2 w (λ v. folded k (v.cells start) (j + 1) (seen v stack left) (seen v stack right))
  fold_next k c1 c2 start j u w p q g old ep eq i =
      let P : ℕ → Type 0 = λ n. Gives c2 w (λ v. folded k (v.cells start) n (seen v stack left) (seen v stack right)) in
      subst P (sym (add-one j)) (record {
        value = λ v c. i.value v c ∙ ap (λ y. step_value k y (v.cells p) (v.cells q)) (old.value v (g.before v c))
            ∙ ap (λ y. step_value k (folded k (v.cells start) j (seen v stack left) (seen v stack right)) (v.cells y) (v.cells q)) ep
            ∙ ap (λ y. step_value k (folded k (v.cells start) j (seen v stack left) (seen v stack right)) (seen v stack left j) (v.cells y)) eq;
      })

  -- the carry into the next place
  pub carry_next : (c1 c2 : List Cell) (start j u w p q : ℕ) → Grown c1 c2 →
      Gives c1 u (λ v. carry (v.cells start) (seen v stack left) (seen v stack right) j) →
      p ≡ slice_index_or stack (left + j) 0 → q ≡ slice_index_or stack (right + j) 0 →
      Gives c2 w (λ v. cond {A = Bool} (differ (v.cells p) (v.cells q)) (v.cells u) (v.cells p)) →
      Gives c2 w (λ v. carry (v.cells start) (seen v stack left) (seen v stack right) (j + 1))
  carry_next c1 c2 start j u w p q g old ep eq i =
      let P : ℕ → Type 0 = λ n. Gives c2 w (λ v. carry (v.cells start) (seen v stack left) (seen v stack right) n) in
      subst P (sym (add-one j)) (record {
        value = λ v c. i.value v c ∙ ap (λ y. cond {A = Bool} (differ (v.cells p) (v.cells q)) y (v.cells p)) (old.value v (g.before v c))
            ∙ ap (λ y. cond {A = Bool} (differ (v.cells y) (v.cells q)) (carry (v.cells start) (seen v stack left) (seen v stack right) j) (v.cells y)) ep
            ∙ ap (λ y. cond {A = Bool} (differ (seen v stack left j) (v.cells y)) (carry (v.cells start) (seen v stack left) (seen v stack right) j) (seen v stack left j)) eq;
      })

  -- the digit of a sum
  pub sum_here : (c1 c2 : List Cell) (start j u w p q : ℕ) → Grown c1 c2 →
      Gives c1 u (λ v. carry (v.cells start) (seen v stack left) (seen v stack right) j) →
      p ≡ slice_index_or stack (left + j) 0 → q ≡ slice_index_or stack (right + j) 0 →
      Gives c2 w (λ v. differ (differ (v.cells p) (v.cells q)) (v.cells u)) →
      Gives c2 w (λ v. differ (differ (seen v stack left j) (seen v stack right j)) (carry (v.cells start) (seen v stack left) (seen v stack right) j))
  sum_here c1 c2 start j u w p q g old ep eq i = record {
    value = λ v c. i.value v c ∙ ap (λ y. differ (differ (v.cells p) (v.cells q)) y) (old.value v (g.before v c))
        ∙ ap (λ y. differ (differ (v.cells y) (v.cells q)) (carry (v.cells start) (seen v stack left) (seen v stack right) j)) ep
        ∙ ap (λ y. differ (differ (seen v stack left j) (v.cells y)) (carry (v.cells start) (seen v stack left) (seen v stack right) j)) eq;
  }

  -- a gate of two places and one more cell
  pub step_here : (k : Kind) (cells : List Cell) (j m p q z : ℕ) → p ≡ slice_index_or stack (left + j) 0 → q ≡ slice_index_or stack (right + j) 0 →
      Gives cells m (λ v. step_value k (v.cells p) (v.cells q) (v.cells z)) →
      Gives cells m (λ v. step_value k (seen v stack left j) (seen v stack right j) (v.cells z))
  step_here k cells j m p q z ep eq i =
      let P : ℕ → Type 0 = λ n. Gives cells m (λ v. step_value k (v.cells n) (v.cells q) (v.cells z)) in
      let Q : ℕ → Type 0 = λ n. Gives cells m (λ v. step_value k (seen v stack left j) (v.cells n) (v.cells z)) in
      subst Q eq (subst P ep i)

-- ---- the stack

-- one cell more on top
pub spells_next : (c1 c2 : List Cell) (s1 s2 : List ℕ) (top j m : ℕ) (f : Valuation → Digits) → Grown c1 c2 → length s1 ≡ top + j →
    ((k : ℕ) → k < length s1 → slice_index_or s2 k 0 ≡ slice_index_or s1 k 0) → slice_index_or s2 (length s1) 0 ≡ m →
    Spells c1 s1 top j f → Gives c2 m (λ v. f v j) → Spells c2 s2 top (j + 1) f
spells_next c1 c2 s1 s2 top j m f grown size below there old here i lt = elim (cases_lt i j) [
  | inl less ↦ (
      let P : ℕ → Type 0 = λ n. Gives c2 n (λ v. f v i) in
      subst P (sym (below (top + i) (omega arith))) (gives_still c1 c2 grown (slice_index_or s1 (top + i) 0) (λ v. f v i) (old i less)))
  | inr more ↦ (
      let same : j ≡ i = omega arith in
      let P : ℕ → Type 0 = λ n. Gives c2 (slice_index_or s2 (top + n) 0) (λ v. f v n) in
      let Q : ℕ → Type 0 = λ n. Gives c2 n (λ v. f v j) in
      let at : slice_index_or s2 (top + j) 0 ≡ m = ap (λ n. slice_index_or s2 n 0) (sym size) ∙ there in
      subst P same (subst Q (sym at) here))
]

-- the same of what is kept below
pub written_next : (s0 s1 s2 : List ℕ) (top j : ℕ) → Written top j s0 s1 → length s2 ≡ length s1 + 1 → ((k : ℕ) → k < length s1 → slice_index_or s2 k 0 ≡ slice_index_or s1 k 0) →
    Written top (j + 1) s0 s2
written_next s0 s1 s2 top j w size below = record {
  size = (let s = w.size in omega arith);
  kept = λ k lt. below k (let s = w.size in omega arith) ∙ w.kept k lt;
}
