-- Classes listed position by position: each goes into the list of its leader, or begins a list.
use Rattle.std.proofs.Common.{◌≡◌, ℕ, zero, suc, ◌<◌, ◌≤◌, ◌+◌, ◌⊎◌, inl, inr, List, [], ◌∷◌, ◌++◌, Some, Bool, true, false, ◌&&◌, length, set, get_or, refl, arith, sym, ap, subst, ◌∙◌, add-one}
use Rattle.std.proofs.lemmas.Bool.{cases_Bool, cases_lt, and_parts, cond-true, cond-false, eqb-true, eq-eqb, not-true, false_from_ne_true, and_from, not_from_false}
use Rattle.std.proofs.lemmas.List.{get_or_at, length_push, set-append_left, set_at, get_or_append_left}
use Rattle.eq_match.specs.Classes.{class_of, classes_to, is_first, passing}
use Rattle.eq_match.specs.Leaders.{leader_at, one_leader}
use Rattle.eq_match.specs.inner.Begun.{rank}
use Rattle.eq_match.proofs.AnyBelow.{none_below, not_below}

some_place : (x y : ℕ) → Some x ≡ Some y → x ≡ y
some_place x y e = cc

pub passing_yes : (n : ℕ) (test : ℕ → Bool) → test n ≡ true → passing (n + 1) test ≡ passing n test ++ n ∷ []
passing_yes n test e = ap (λ m. passing m test) (add-one n) ∙ cond-true (test n) (passing n test ++ n ∷ []) (passing n test) e

pub passing_no : (n : ℕ) (test : ℕ → Bool) → test n ≡ false → passing (n + 1) test ≡ passing n test
passing_no n test e = ap (λ m. passing m test) (add-one n) ∙ cond-false (test n) (passing n test ++ n ∷ []) (passing n test) e

pub passing_none : (n : ℕ) (test : ℕ → Bool) → ((j : ℕ) → j < n → test j ≡ false) → passing n test ≡ []
passing_none zero test all = refl
passing_none (suc n) test all =
    cond-false (test n) (passing n test ++ n ∷ []) (passing n test) (all n (omega arith)) ∙
    passing_none n test (λ j h. all j (omega arith))

module _ (held : ℕ → Bool) (leaders : List ℕ) where
  abbrev pub T : ℕ → ℕ → Bool
  T = one_leader leaders

  abbrev pub first : ℕ → Bool
  first = is_first held T

  -- the lists with the classes whose first position is below k, one position on
  rank_yes : (k : ℕ) → first k ≡ true → rank held T (suc k) ≡ rank held T k + 1
  rank_yes k e = cond-true (first k) (rank held T k + 1) (rank held T k) e

  rank_no : (k : ℕ) → first k ≡ false → rank held T (suc k) ≡ rank held T k
  rank_no k e = cond-false (first k) (rank held T k + 1) (rank held T k) e

  pub at_yes : (m k : ℕ) → first k ≡ true → classes_to m held T (suc k) ≡ classes_to m held T k ++ class_of m held T k ∷ []
  at_yes m k e = cond-true (first k) (classes_to m held T k ++ class_of m held T k ∷ []) (classes_to m held T k) e

  pub at_no : (m k : ℕ) → first k ≡ false → classes_to m held T (suc k) ≡ classes_to m held T k
  at_no m k e = cond-false (first k) (classes_to m held T k ++ class_of m held T k ∷ []) (classes_to m held T k) e

  pub count : (m k : ℕ) → length (classes_to m held T k) ≡ rank held T k
  count m zero = refl
  count m (suc k) = elim (cases_Bool (first k)) [
    | inl holds ↦ ap length (at_yes m k holds) ∙ length_push (classes_to m held T k) (class_of m held T k) ∙
        ap (λ r. r + 1) (count m k) ∙ sym (rank_yes k holds)
    | inr fails ↦ ap length (at_no m k fails) ∙ count m k ∙ sym (rank_no k fails)
  ]

  pub rank_le : (k : ℕ) → rank held T k ≤ k
  rank_le zero = omega arith
  rank_le (suc k) = elim (cases_Bool (first k)) [
    | inl holds ↦ (let e = rank_yes k holds in let h = rank_le k in omega arith)
    | inr fails ↦ (let e = rank_no k fails in let h = rank_le k in omega arith)
  ]

  pub rank_more : (f k : ℕ) → f < k → first f ≡ true → rank held T f < rank held T k
  rank_more f zero h e = absurd (omega arith)
  rank_more f (suc k) h e = elim (cases_lt f k) [
    | inl less ↦ (let u = rank_more f k less e in elim (cases_Bool (first k)) [
      | inl holds ↦ (let s = rank_yes k holds in omega arith)
      | inr fails ↦ (let s = rank_no k fails in omega arith)
    ])
    | inr more ↦ (let same : f ≡ k = omega arith in let s = rank_yes f e in
        subst (λ m. rank held T f < rank held T (suc m)) same (omega arith))
  ]

  -- no first position below k leads position i
  pub unchanged : (i k : ℕ) → ((f : ℕ) → f < k → first f ≡ true → (held i && T f i) ≡ false) →
      classes_to (i + 1) held T k ≡ classes_to i held T k
  unchanged i zero all = refl
  unchanged i (suc k) all = elim (cases_Bool (first k)) [
    | inl holds ↦ at_yes (i + 1) k holds ∙
        ap (λ c. classes_to (i + 1) held T k ++ c ∷ []) (passing_no i (λ j. held j && T k j) (all k (omega arith) holds)) ∙
        ap (λ cs. cs ++ class_of i held T k ∷ []) (unchanged i k (λ f h. all f (omega arith))) ∙ sym (at_yes i k holds)
    | inr fails ↦ at_no (i + 1) k fails ∙ unchanged i k (λ f h. all f (omega arith)) ∙ sym (at_no i k fails)
  ]

  pub first_parts : (f : ℕ) → first f ≡ true → (held f ≡ true) × ((j : ℕ) → j < f → (held j && T f j) ≡ false)
  first_parts f e = let parts = and_parts (held f) _ e in (parts.0, none_below f (λ j. held j && T f j) (not-true _ parts.1))

  pub is_the_first : (f : ℕ) → held f ≡ true → ((j : ℕ) → j < f → (held j && T f j) ≡ false) → first f ≡ true
  is_the_first f h all = and_from (held f) _ h (not_from_false _ (not_below f (λ j. held j && T f j) all))

  pub together : (f j : ℕ) → leader_at leaders f ≡ leader_at leaders j → T f j ≡ true
  together f j e = eq-eqb (leader_at leaders f) (leader_at leaders j) e

  -- two first positions of one class are one
  one_first : (f g : ℕ) → first f ≡ true → first g ≡ true → leader_at leaders f ≡ leader_at leaders g → f < g → ⊥
  one_first f g e h same less =
      let held_f = (first_parts f e).0 in let fails = (first_parts g h).1 f less in
      let holds = and_from (held f) (T g f) held_f (together g f (sym same)) in let t = sym holds ∙ fails in absurd (cc)

  apart : (i f g : ℕ) → first f ≡ true → leader_at leaders f ≡ leader_at leaders i → first g ≡ true → (g < f) ⊎ (f < g) →
      (held i && T g i) ≡ false
  apart i f g e same h other = false_from_ne_true (held i && T g i) (λ t.
      let parts = and_parts (held i) (T g i) t in let gi = eqb-true (leader_at leaders g) (leader_at leaders i) parts.1 in
      elim other [
        | inl less ↦ one_first g f h e (gi ∙ sym same) less
        | inr more ↦ one_first f g e h (same ∙ sym gi) more
      ])

  -- position i goes into the list of its first position
  pub changed : (i f k : ℕ) → held i ≡ true → first f ≡ true → leader_at leaders f ≡ leader_at leaders i → f < k →
      classes_to (i + 1) held T k ≡ set (classes_to i held T k) (rank held T f)
      (get_or (classes_to i held T k) (rank held T f) [] ++ i ∷ [])
  changed i f zero h e same less = absurd (omega arith)
  changed i f (suc k) h e same less = elim (cases_lt f k) [
    | inl more ↦ (let r = rank_more f k more e in let n = count i k in let lt : rank held T f < length (classes_to i held T k) = omega arith in
        elim (cases_Bool (first k)) [
          | inl holds ↦ at_yes (i + 1) k holds ∙
              ap (λ c. classes_to (i + 1) held T k ++ c ∷ []) (passing_no i (λ j. held j && T k j) (apart i f k e same holds (inr more))) ∙
              ap (λ cs. cs ++ class_of i held T k ∷ []) (changed i f k h e same more) ∙
              sym (set-append_left (classes_to i held T k) (class_of i held T k ∷ []) (rank held T f)
              (get_or (classes_to i held T k) (rank held T f) [] ++ i ∷ []) lt) ∙
              ap (λ c. set (classes_to i held T k ++ class_of i held T k ∷ []) (rank held T f) (c ++ i ∷ []))
              (sym (get_or_append_left (classes_to i held T k) (class_of i held T k ∷ []) [] (rank held T f) lt)) ∙
              ap (λ cs. set cs (rank held T f) (get_or cs (rank held T f) [] ++ i ∷ [])) (sym (at_yes i k holds))
          | inr fails ↦ at_no (i + 1) k fails ∙ changed i f k h e same more ∙
              ap (λ cs. set cs (rank held T f) (get_or cs (rank held T f) [] ++ i ∷ [])) (sym (at_no i k fails))
        ])
    | inr here ↦ (let is : f ≡ k = omega arith in
        subst (λ m. classes_to (i + 1) held T (suc m) ≡ set (classes_to i held T (suc m)) (rank held T f)
        (get_or (classes_to i held T (suc m)) (rank held T f) [] ++ i ∷ [])) is
        (at_yes (i + 1) f e ∙
        ap (λ c. classes_to (i + 1) held T f ++ c ∷ []) (passing_yes i (λ j. held j && T f j) (and_from (held i) (T f i) h (together f i same))) ∙
        ap (λ cs. cs ++ (class_of i held T f ++ i ∷ []) ∷ []) (unchanged i f (λ g l first_g. apart i f g e same first_g (inl l))) ∙
        sym (set_at (classes_to i held T f) (class_of i held T f) [] (class_of i held T f ++ i ∷ []) (rank held T f) (count i f)) ∙
        ap (λ c. set (classes_to i held T f ++ class_of i held T f ∷ []) (rank held T f) (c ++ i ∷ []))
        (sym (get_or_at (classes_to i held T f) (class_of i held T f) [] [] (rank held T f) (count i f))) ∙
        ap (λ cs. set cs (rank held T f) (get_or cs (rank held T f) [] ++ i ∷ [])) (sym (at_yes i f e))))
  ]
