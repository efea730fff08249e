-- Whether some number below n passes a test. Lemmas on the word of eq_model.
use Rattle.std.proofs.Common.{◌≡◌, ℕ, zero, suc, ◌<◌, inl, inr, Bool, true, false, ◌||◌, refl, arith, ap, ◌∙◌}
use Rattle.std.proofs.lemmas.Bool.{cases_lt, or_cases, or_left, or_right, or_parts}
use Rattle.eq_model.specs.Cut.{any_below}

-- a number that passes
pub found_below : (n : ℕ) (test : ℕ → Bool) → any_below n test ≡ true → (j : ℕ) × (j < n) × (test j ≡ true)
found_below zero test e = absurd (cc)
found_below (suc n) test e = elim (or_cases (test n) (any_below n test) e) [
  | inl here ↦ (n, omega arith, here)
  | inr there ↦ (let h = found_below n test there in (h.0, omega (arith, h.1), h.2))
]

-- none passes
pub none_below : (n : ℕ) (test : ℕ → Bool) → any_below n test ≡ false → (j : ℕ) → j < n → test j ≡ false
none_below zero test e j h = absurd (omega arith)
none_below (suc n) test e j h = let parts = or_parts (test n) (any_below n test) e in
    elim (cases_lt j n) [
      | inl less ↦ none_below n test parts.1 j less
      | inr more ↦ (let same : j ≡ n = omega arith in ap test same ∙ parts.0)
    ]

pub some_below : (n : ℕ) (test : ℕ → Bool) (j : ℕ) → j < n → test j ≡ true → any_below n test ≡ true
some_below zero test j h e = absurd (omega arith)
some_below (suc n) test j h e = elim (cases_lt j n) [
  | inl less ↦ or_right (test n) (any_below n test) (some_below n test j less e)
  | inr more ↦ (let same : n ≡ j = omega arith in or_left (test n) (any_below n test) (ap test same ∙ e))
]

pub not_below : (n : ℕ) (test : ℕ → Bool) → ((j : ℕ) → j < n → test j ≡ false) → any_below n test ≡ false
not_below zero test all = refl
not_below (suc n) test all =
    ap (λ b. b || any_below n test) (all n (omega arith)) ∙ not_below n test (λ j h. all j (omega arith))

-- tests that agree below n
pub same_below : (n : ℕ) (s t : ℕ → Bool) → ((j : ℕ) → j < n → s j ≡ t j) → any_below n s ≡ any_below n t
same_below zero s t all = refl
same_below (suc n) s t all =
    ap (λ b. b || any_below n s) (all n (omega arith)) ∙
    ap (λ b. t n || b) (same_below n s t (λ j h. all j (omega arith)))
