-- The first number that passes a test.
use Rattle.std.proofs.Common.{◌≡◌, ℕ, zero, suc, ◌+◌, ◌<◌, Bool, true, false, cond, Option, Some, None, refl, arith, sym, ap, ◌∙◌, inl, inr}
use Rattle.std.specs.Option.{option_or}
use Rattle.std.proofs.lemmas.Bool.{cases_lt}
use Rattle.eq_verilog.specs.Firsts.{first_below}

-- tests that agree below a number have the same first
pub first_same : (n : ℕ) (f g : ℕ → Bool) → ((b : ℕ) → b < n → f b ≡ g b) → first_below n f ≡ first_below n g
first_same zero f g same = refl
first_same (suc n) f g same =
    ap (λ o. option_or o (cond {A = Option ℕ} (f n) (Some n) None))
    (first_same n f g (λ b lt. same b (omega (arith, lt))))
    ∙ ap (λ t. option_or (first_below n g) (cond {A = Option ℕ} t (Some n) None)) (same n (omega arith))

-- where none passes so far, one that passes is the first
pub first_at : (n m : ℕ) (test : ℕ → Bool) → first_below m test ≡ None → m < n → test m ≡ true →
    first_below n test ≡ Some m
first_at zero m test none lt here = absurd (omega (arith, lt))
first_at (suc n) m test none lt here = elim (cases_lt m n) [
  | inl less ↦
      ap (λ o. option_or o (cond {A = Option ℕ} (test n) (Some n) None)) (first_at n m test none less here)
  | inr more ↦
      let same : m ≡ n = omega (arith, lt, more) in
      ap (λ o. option_or o (cond {A = Option ℕ} (test n) (Some n) None)) (ap (λ k. first_below k test) (sym same) ∙ none)
      ∙ ap (λ t. cond {A = Option ℕ} t (Some n) None) (ap test (sym same) ∙ here)
      ∙ ap (λ k. Some k) (sym same)
]

-- and one more that doesn't pass changes nothing
pub none_more : (m : ℕ) (test : ℕ → Bool) → first_below m test ≡ None → test m ≡ false → first_below (m + 1) test ≡ None
none_more m test none fails =
    let next : m + 1 ≡ suc m = omega arith in
    ap (λ k. first_below k test) next
    ∙ ap (λ o. option_or o (cond {A = Option ℕ} (test m) (Some m) None)) none
    ∙ ap (λ t. cond {A = Option ℕ} t (Some m) None) fails

none_with : (n : ℕ) (test : ℕ → Bool) (o : Option ℕ) (t : Bool) (b : ℕ) → b < suc n → test n ≡ t →
    option_or o (cond {A = Option ℕ} t (Some n) None) ≡ None → (o ≡ None → b < n → test b ≡ false) → test b ≡ false
none_with n test (Some k) t b lt same h rest = absurd (cc)
none_with n test None true b lt same h rest = absurd (cc)
none_with n test None false b lt same h rest = elim (cases_lt b n) [
  | inl less ↦ rest refl less
  | inr more ↦ (let e : b ≡ n = omega (arith, lt, more) in ap test e ∙ same)
]

-- none passes where there is no first
pub none_passes : (n : ℕ) (test : ℕ → Bool) → first_below n test ≡ None → (b : ℕ) → b < n → test b ≡ false
none_passes zero test none b lt = absurd (omega (arith, lt))
none_passes (suc n) test none b lt =
    none_with n test (first_below n test) (test n) b lt refl none (λ is less. none_passes n test is b less)
