-- The classes by leaders divide what is held.
use Rattle.std.proofs.Common.{◌≡◌, ℕ, zero, suc, ◌<◌, inl, inr, List, [], ◌∷◌, ◌++◌, Bool, true, false, not, ◌&&◌, ◌||◌, eqb, length, refl, arith, sym, ap, subst, ◌∙◌}
use Rattle.std.proofs.lemmas.Bool.{cases_Bool, cases_lt, cases_order, and_cases, and_from, and_parts, cond-true, cond-false, eqb-true, eq-eqb, not-false, or_cases, or_left, or_right}
use Rattle.std.proofs.lemmas.List.{get_or_append_left, get_or_at, get_or_past, length_push}
use Rattle.std.proofs.lemmas.List.Folds.{list_any-append}
use Rattle.eq_match.specs.Classes.{class_of, classes, classes_to, is_first, passing}
use Rattle.eq_match.specs.Divided.{AreDivided, has, list_at}
use Rattle.eq_match.specs.Leaders.{leader_at, one_leader}
use Rattle.eq_match.specs.inner.Begun.{rank}
use Rattle.eq_model.specs.Cut.{any_below}
use Rattle.eq_match.proofs.AnyBelow.{found_below}
use Rattle.eq_match.proofs.Lists.{at_no, at_yes, count, first_parts, rank_more, together}

has_push : (xs : List ℕ) (n i : ℕ) → has i (xs ++ n ∷ []) ≡ (has i xs || (eqb n i || false))
has_push xs n i = list_any-append (λ j. eqb j i) xs (n ∷ [])

passing_yes : (n : ℕ) (test : ℕ → Bool) → test n ≡ true → passing (suc n) test ≡ passing n test ++ n ∷ []
passing_yes n test e = cond-true (test n) (passing n test ++ n ∷ []) (passing n test) e

passing_no : (n : ℕ) (test : ℕ → Bool) → test n ≡ false → passing (suc n) test ≡ passing n test
passing_no n test e = cond-false (test n) (passing n test ++ n ∷ []) (passing n test) e

-- what passes is what the test passes
pub has_passed : (n : ℕ) (test : ℕ → Bool) (i : ℕ) → has i (passing n test) ≡ true → (i < n) × (test i ≡ true)
has_passed zero test i e = absurd (cc)
has_passed (suc n) test i e = elim (cases_Bool (test n)) [
  | inl holds ↦ (elim (or_cases (has i (passing n test)) (eqb n i || false)
      (sym (has_push (passing n test) n i) ∙ ap (has i) (sym (passing_yes n test holds)) ∙ e)) [
        | inl old ↦ (let h = has_passed n test i old in (omega (arith, h.0), h.1))
        | inr new ↦ (elim (or_cases (eqb n i) false new) [
          | inl same ↦ (let is = eqb-true n i same in (omega arith, ap test (sym is) ∙ holds))
          | inr never ↦ absurd (cc)
        ])
      ])
  | inr fails ↦ (let h = has_passed n test i (ap (has i) (sym (passing_no n test fails)) ∙ e) in (omega (arith, h.0), h.1))
]

pub passes_has : (n : ℕ) (test : ℕ → Bool) (i : ℕ) → i < n → test i ≡ true → has i (passing n test) ≡ true
passes_has zero test i h e = absurd (omega arith)
passes_has (suc n) test i h e = elim (cases_lt i n) [
  | inl less ↦ (elim (cases_Bool (test n)) [
    | inl holds ↦ ap (has i) (passing_yes n test holds) ∙ has_push (passing n test) n i ∙
        or_left (has i (passing n test)) _ (passes_has n test i less e)
    | inr fails ↦ ap (has i) (passing_no n test fails) ∙ passes_has n test i less e
  ])
  | inr more ↦ (let is : n ≡ i = omega arith in
      ap (has i) (passing_yes n test (ap test is ∙ e)) ∙ has_push (passing n test) n i ∙
      or_right (has i (passing n test)) _ (or_left (eqb n i) false (eq-eqb n i is)))
]

module _ (n : ℕ) (held : ℕ → Bool) (leaders : List ℕ) where
  abbrev pub T : ℕ → ℕ → Bool
  T = one_leader leaders

  -- the class of a first position stands at its rank
  pub there : (f k : ℕ) → f < k → is_first held T f ≡ true → list_at (classes_to n held T k) (rank held T f) ≡ class_of n held T f
  there f zero h e = absurd (omega arith)
  there f (suc k) h e = elim (cases_lt f k) [
    | inl less ↦ (let r = rank_more held leaders f k less e in let c = count held leaders n k in
        elim (cases_Bool (is_first held T k)) [
          | inl holds ↦ ap (λ ls. list_at ls (rank held T f)) (at_yes held leaders n k holds) ∙
              get_or_append_left (classes_to n held T k) (class_of n held T k ∷ []) [] (rank held T f) (omega arith) ∙ there f k less e
          | inr fails ↦ ap (λ ls. list_at ls (rank held T f)) (at_no held leaders n k fails) ∙ there f k less e
        ])
    | inr more ↦ (let is : f ≡ k = omega arith in
        subst (λ m. list_at (classes_to n held T (suc m)) (rank held T f) ≡ class_of n held T f) is
        (ap (λ ls. list_at ls (rank held T f)) (at_yes held leaders n f e) ∙
        get_or_at (classes_to n held T f) (class_of n held T f) [] [] (rank held T f) (count held leaders n f)))
  ]

  -- each place is the rank of a first position
  pub is_rank : (k s : ℕ) → s < length (classes_to n held T k) → (f : ℕ) × (f < k) × (is_first held T f ≡ true) × (s ≡ rank held T f)
  is_rank zero s h = absurd (omega arith)
  is_rank (suc k) s h = elim (cases_Bool (is_first held T k)) [
    | inl holds ↦ (let e = ap length (at_yes held leaders n k holds) ∙ length_push (classes_to n held T k) (class_of n held T k) in
        let c = count held leaders n k in
        elim (cases_lt s (length (classes_to n held T k))) [
          | inl less ↦ (let p = is_rank k s less in (p.0, omega (arith, p.1), p.2, p.3))
          | inr more ↦ (k, omega arith, holds, omega arith)
        ])
    | inr fails ↦ (let e = ap length (at_no held leaders n k fails) in
        let p = is_rank k s (omega arith) in (p.0, omega (arith, p.1), p.2, p.3))
  ]

  abbrev pub lists : List (List ℕ)
  lists = classes n held T

  -- a position in a list is led by the list's first position
  pub led_by : (s i : ℕ) → has i (list_at lists s) ≡ true → (f : ℕ) × (f < n) × (is_first held T f ≡ true) ×
      (s ≡ rank held T f) × (i < n) × (held i ≡ true) × (leader_at leaders f ≡ leader_at leaders i)
  led_by s i e = elim (cases_lt s (length lists)) [
    | inl less ↦ (let p = is_rank n s less in
        let q = has_passed n (λ j. held j && T p.0 j) i
        (sym (ap (has i) (ap (list_at lists) p.3 ∙ there p.0 n p.1 p.2)) ∙ e) in
        let parts = and_parts (held i) (T p.0 i) q.1 in
        (p.0, p.1, p.2, p.3, q.0, parts.0, eqb-true (leader_at leaders p.0) (leader_at leaders i) parts.1))
    | inr more ↦ absurd (let t = sym e ∙ ap (has i) (get_or_past lists s [] more) in cc)
  ]

  pub in_class : (f i : ℕ) → f < n → is_first held T f ≡ true → i < n → held i ≡ true → leader_at leaders f ≡ leader_at leaders i →
      has i (list_at lists (rank held T f)) ≡ true
  in_class f i l e h holds same =
      ap (has i) (there f n l e) ∙
      passes_has n (λ j. held j && T f j) i h (and_from (held i) (T f i) holds (together held leaders f i same))

  one_first : (f g : ℕ) → is_first held T f ≡ true → is_first held T g ≡ true → leader_at leaders f ≡ leader_at leaders g → f ≡ g
  one_first f g e h same = elim (cases_order f g) [
    | inl is ↦ is
    | inr (inl less) ↦ absurd (let t = sym (and_from (held f) (T g f) (first_parts held leaders f e).0
        (together held leaders g f (sym same))) ∙ (first_parts held leaders g h).1 f less in cc)
    | inr (inr more) ↦ absurd (let t = sym (and_from (held g) (T f g) (first_parts held leaders g h).0
        (together held leaders f g same)) ∙ (first_parts held leaders f e).1 g more in cc)
  ]

  -- the first position of the class of i, looked for below k
  first_of : (k i : ℕ) → i < k → held i ≡ true → (f : ℕ) × (f < k) × (is_first held T f ≡ true) × (leader_at leaders f ≡ leader_at leaders i)
  first_of zero i h holds = absurd (omega arith)
  first_of (suc k) i h holds = elim (cases_lt i k) [
    | inl less ↦ (let p = first_of k i less holds in (p.0, omega (arith, p.1), p.2, p.3))
    | inr more ↦ (let is : i ≡ k = omega arith in elim (cases_Bool (is_first held T i)) [
      | inl first ↦ (i, h, first, refl)
      | inr later ↦ (elim (and_cases (held i) (not (any_below i (λ j. held j && T i j))) later) [
        | inl fails ↦ absurd (let t = sym holds ∙ fails in cc)
        | inr some ↦ (let b = found_below i (λ j. held j && T i j) (not-false _ some) in
            let parts = and_parts (held b.0) (T i b.0) b.2 in
            let p = first_of k b.0 (omega (arith, b.1)) parts.0 in
            (p.0, omega (arith, p.1), p.2, p.3 ∙ sym (eqb-true (leader_at leaders i) (leader_at leaders b.0) parts.1)))
      ])
    ])
  ]

  one_rank : (f g : ℕ) → is_first held T f ≡ true → is_first held T g ≡ true → rank held T f ≡ rank held T g → f ≡ g
  one_rank f g e h same = elim (cases_order f g) [
    | inl is ↦ is
    | inr (inl less) ↦ absurd (let r = rank_more held leaders f g less e in omega arith)
    | inr (inr more) ↦ absurd (let r = rank_more held leaders g f more h in omega arith)
  ]

  pub divided : AreDivided n held T lists
  divided = record {
    in_one = λ i h holds. let p = first_of n i h holds in (
      rank held T p.0,
      (let r = rank_more held leaders p.0 n p.1 p.2 in let c = count held leaders n n in omega arith),
      in_class p.0 i p.1 p.2 h holds p.3,
      λ s e. let q = led_by s i e in q.3 ∙ ap (rank held T) (one_first q.0 p.0 q.2 p.2 (q.6 ∙ sym p.3)),
    );
    inside = λ s i e. let q = led_by s i e in (q.4, q.5);
    some = λ s h. let p = is_rank n s h in (
      p.0,
      ap (λ r. has p.0 (list_at lists r)) p.3 ∙
          in_class p.0 p.0 p.1 p.2 p.1 (first_parts held leaders p.0 p.2).0 refl,
    );
    with_all = λ s i j e. let q = led_by s i e in (
      (λ d. let r = led_by s j d in (
        r.4,
        r.5,
        together held leaders i j (sym q.6 ∙ ap (leader_at leaders) (one_rank q.0 r.0 q.2 r.2 (sym q.3 ∙ r.3)) ∙ r.6),
      )),
      (λ d. ap (λ r. has j (list_at lists r)) q.3 ∙ in_class q.0 j q.1 q.2 d.0 d.1
          (q.6 ∙ eqb-true (leader_at leaders i) (leader_at leaders j) d.2)),
    );
  }
