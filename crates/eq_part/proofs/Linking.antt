-- The last edge of a node among the first ones.
use Rattle.std.proofs.Common.{◌≡◌, ◌≢◌, ℕ, zero, suc, ◌<◌, ◌≤◌, ◌==◌, true, false, List, cond, arith, sym, ap, subst, ◌∙◌, inl, inr}
use Rattle.std.proofs.lemmas.Bool.{cases_lt}
use Rattle.std.proofs.lemmas.Bool.Decides.{eqb_tells}
use Rattle.eq_reads.specs.declared.graph.Edge.{Edge}
use Rattle.eq_reads.specs.Graph.{from_at}
use Rattle.eq_part.specs.inner.Walking.{last_from}

-- the last edge is one of the first k
pub last_within : (edges : List Edge) (v k : ℕ) → last_from edges v k ≤ k
last_within edges v zero = omega arith
last_within edges v (suc k) = elim (from_at edges k == v) as (λ t. cond t (suc k) (last_from edges v k) ≤ suc k) [
  | true ↦ omega arith
  | false ↦ (let h = last_within edges v k in omega arith)
]

-- and begins at the node
pub last_begins : (edges : List Edge) (v k e : ℕ) → last_from edges v k ≡ suc e → (from_at edges e ≡ v) × (e < k)
last_begins edges v zero e h = absurd (omega arith)
last_begins edges v (suc k) e h = elim (eqb_tells (from_at edges k) v) [
  | inl hit ↦ (
      let is : suc k ≡ suc e = ap (λ t. cond {A = ℕ} t (suc k) (last_from edges v k)) (sym hit.0) ∙ h in
      let same : k ≡ e = omega arith in
      (subst (λ (j : ℕ). from_at edges j ≡ v) same hit.1, omega arith))
  | inr miss ↦ (
      let is : last_from edges v k ≡ suc e = ap (λ t. cond {A = ℕ} t (suc k) (last_from edges v k)) (sym miss.0) ∙ h in
      let more = last_begins edges v k e is in
      let below = more.1 in
      (more.0, omega arith))
]

-- no later edge does
pub last_is_last : (edges : List Edge) (v k e : ℕ) → last_from edges v k ≤ e → e < k → from_at edges e ≢ v
last_is_last edges v zero e le lt = absurd (omega arith)
last_is_last edges v (suc k) e le lt = elim (eqb_tells (from_at edges k) v) [
  | inl hit ↦ (
      let is : last_from edges v (suc k) ≡ suc k = ap (λ t. cond {A = ℕ} t (suc k) (last_from edges v k)) hit.0 in
      absurd (omega arith))
  | inr miss ↦ (
      let is : last_from edges v (suc k) ≡ last_from edges v k = ap (λ t. cond {A = ℕ} t (suc k) (last_from edges v k)) miss.0 in
      elim (cases_lt e k) [
        | inl less ↦ last_is_last edges v k e (omega arith) less
        | inr more ↦ (let same : k ≡ e = omega arith in subst (λ (j : ℕ). from_at edges j ≢ v) same miss.1)
      ])
]
