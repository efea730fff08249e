-- Of how many elements a test holds, and which of those is found first.
use Rattle.std.proofs.Common.{◌≡◌, ℕ, zero, suc, ◌+◌, ◌<◌, Bool, true, false, cond, List, [], ◌∷◌, length, slice_index_or, Contains, Option, Some, None, refl, arith, sym, ap, ◌∙◌, inl, inr}
use Rattle.std.specs.Prelude.{count_by, find}
use Rattle.std.proofs.lemmas.Bool.{cases_Bool}
use Rattle.std.proofs.lemmas.List.Sums.{sum_by-cons}

-- what is in a list is its first or in the rest
pub first_or_rest : {X : Type 0} (P : Type 0) (x : X) (xs : List X) (y : X) → Contains (x ∷ xs) y → (x ≡ y → P) →
    (Contains xs y → P) → P
first_or_rest {X} P x xs y has one more = at has.0 has.1 has.2
  where
    at : (i : ℕ) → i < length (x ∷ xs) → slice_index_or (x ∷ xs) i y ≡ y → P
    at zero lt e = one e
    at (suc i) lt e = more (i, omega (arith, lt), e)

module _ {X : Type 0} (test : X → Bool) where
  -- the first counts where the test holds of it
  pub counted : (x : X) (xs : List X) (t : Bool) → test x ≡ t →
      count_by test (x ∷ xs) ≡ cond {A = ℕ} t 1 0 + count_by test xs
  counted x xs t is =
      sum_by-cons (λ y. cond {A = ℕ} (test y) 1 0) x xs
      ∙ ap (λ s. cond {A = ℕ} s 1 0 + count_by test xs) is

  pub some_counted : (xs : List X) (y : X) → Contains xs y → test y ≡ true → 0 < count_by test xs
  some_counted [] y has holds = absurd (let lt = has.1 in omega (arith, lt))
  some_counted (x ∷ xs) y has holds =
      first_or_rest (0 < count_by test (x ∷ xs)) x xs y has
      (λ one. (let c = counted x xs true (ap test one ∙ holds) in omega (arith, c)))
      (λ more. (
      let c = counted x xs (test x) refl in
      let d = some_counted xs y more holds in
      omega (arith, c, d)))

  pub none_found : (xs : List X) → count_by test xs ≡ 0 → find test xs ≡ None
  none_found [] none = refl
  none_found (x ∷ xs) none = elim (cases_Bool (test x)) [
    | inl t ↦ absurd (let c = counted x xs true t in omega (arith, c, none))
    | inr f ↦
        ap (λ s. cond {A = Option X} s (Some x) (find test xs)) f
        ∙ none_found xs (let c = counted x xs false f in omega (arith, c, none))
  ]

  -- the only one is found
  pub one_found : (xs : List X) (y : X) → Contains xs y → test y ≡ true → count_by test xs ≡ 1 →
      find test xs ≡ Some y
  one_found [] y has holds one = absurd (let lt = has.1 in omega (arith, lt))
  one_found (x ∷ xs) y has holds one = elim (cases_Bool (test x)) [
    | inl t ↦
        ap (λ s. cond {A = Option X} s (Some x) (find test xs)) t
        ∙ first_or_rest (Some x ≡ Some y) x xs y has (λ same. ap (λ z. Some z) same)
        (λ more. absurd (
        let c = counted x xs true t in
        let d = some_counted xs y more holds in
        omega (arith, c, d, one)))
    | inr f ↦
        ap (λ s. cond {A = Option X} s (Some x) (find test xs)) f
        ∙ first_or_rest (find test xs ≡ Some y) x xs y has
        (λ same. absurd (let e = sym f ∙ ap test same ∙ holds in cc))
        (λ more. one_found xs y more holds (let c = counted x xs false f in omega (arith, c, one)))
  ]
