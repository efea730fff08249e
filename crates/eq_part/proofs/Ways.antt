-- Pairs that have a bit.
use Rattle.std.proofs.Common.{◌≡◌, ◌≢◌, ℕ, zero, suc, ◌<◌, ◌⊎◌, List, arith, subst, inl, inr}
use Rattle.std.proofs.lemmas.Bool.{cases_lt}
use Rattle.std.proofs.lemmas.Bool.Decides.{eqb_tells}
use Rattle.eq_net.specs.Net.{Parts}
use Rattle.eq_match.specs.declared.types.Pair.{Pair}
use Rattle.eq_match.specs.Matched.{gold_bit}

-- a bit is in one of the first k pairs, or in none of them
pub find_pair : (gold : Parts) (pairs : List Pair) (b k : ℕ) →
    ((i : ℕ) × (i < k) × (gold_bit gold pairs i ≡ b)) ⊎ ((i : ℕ) → i < k → gold_bit gold pairs i ≢ b)
find_pair gold pairs b zero = inr (λ i lt is. absurd (omega arith))
find_pair gold pairs b (suc k) = elim (find_pair gold pairs b k) [
  | inl found ↦ (let lt = found.1 in inl (found.0, omega arith, found.2))
  | inr none ↦ elim (eqb_tells (gold_bit gold pairs k) b) [
    | inl same ↦ inl (k, omega arith, same.1)
    | inr other ↦ inr (λ i lt is. elim (cases_lt i k) [
      | inl less ↦ none i less is
      | inr more ↦ (let at : i ≡ k = omega arith in other.1 (subst (λ (j : ℕ). gold_bit gold pairs j ≡ b) at is))
    ])
  ]
]
