-- Leaders found by keys: a table has the first position of each key so far.
use Rattle.std.proofs.Common.{◌≡◌, ℕ, ◌<◌, ◌≤◌, ◌+◌, ◌^◌, ◌⊎◌, inl, inr, List, [], ◌∷◌, ◌++◌, Option, Some, None, length, replicate, set, get_or, refl, arith, sym, ap, subst, ◌∙◌, eqb, get_or-set_same, get_or-set_other}
use Rattle.std.proofs.lemmas.Bool.{cases_eq, cases_lt, eq-eqb, ne_eqb}
use Rattle.std.proofs.lemmas.List.{get_or-replicate, get_or_append_left, get_or_push, get_or_past, length_push, length-replicate}
use Rattle.eq_match.specs.Leaders.{AreByKeys, AreLeaders, leader_at}
use Rattle.eq_match.specs.inner.Leading.{AreFirsts, first_at, first_or}

some_inside : (x y : ℕ) → Some x ≡ Some y → x ≡ y
some_inside x y e = cc

no_first : (bound key : ℕ) → first_at (replicate bound None) key ≡ None
no_first bound key = elim (cases_lt key bound) [
  | inl less ↦ get_or-replicate bound key None None less
  | inr more ↦ get_or_past (replicate bound None) key None (let e = length-replicate {A = Option ℕ} bound None in omega arith)
]

-- at first no key has a first position
pub none_yet : (keys : List ℕ) (bound : ℕ) → AreFirsts keys 0 (replicate bound None) []
none_yet keys bound = record {
  count = refl;
  each = λ j h. absurd (omega arith);
  found = λ key f h. absurd (let e = sym (no_first bound key) ∙ h in cc);
  before = λ j h. absurd (omega arith);
}

module _ (keys : List ℕ) (n : ℕ) (firsts : List (Option ℕ)) (leaders : List ℕ) (key : ℕ)
    (is : AreFirsts keys n firsts leaders) (key_is : get_or keys n 0 ≡ key) (within : key < length firsts) where
  abbrev first : ℕ
  first = first_or (first_at firsts key) n

  abbrev now : List (Option ℕ)
  now = set firsts key (Some first)

  abbrev more : List ℕ
  more = leaders ++ first ∷ []

  first_cases : (o : Option ℕ) → first_at firsts key ≡ o → ((o ≡ Some (first_or o n)) × (first_or o n < n) ×
      (get_or keys (first_or o n) 0 ≡ key)) ⊎ (first_or o n ≡ n)
  first_cases None e = inr refl
  first_cases (Some f) e = let h = is.found key f e in inl (refl, h.0, h.1)

  first_key : (get_or keys first 0 ≡ key) × (first ≤ n)
  first_key = elim (first_cases (first_at firsts key) refl) [
    | inl h ↦ (h.2, omega arith)
    | inr e ↦ (ap (λ k. get_or keys k 0) e ∙ key_is, omega arith)
  ]

  here : first_at now key ≡ Some first
  here = get_or-set_same firsts key (Some first) None within

  other : (k : ℕ) → (k ≡ key → ⊥) → first_at now k ≡ first_at firsts k
  other k apart = get_or-set_other firsts key k (Some first) None apart

  old_leader : (j : ℕ) → j < n → leader_at more j ≡ leader_at leaders j
  old_leader j h = get_or_append_left leaders (first ∷ []) 0 j (let e = is.count in omega arith)

  new_leader : leader_at more n ≡ first
  new_leader = get_or_push leaders first 0 n is.count

  first_was : (f : ℕ) → first_at firsts key ≡ Some f → first ≡ f
  first_was f e = ap (λ o. first_or o n) e

  each_old : (j : ℕ) → j < n → first_at now (get_or keys j 0) ≡ Some (leader_at more j)
  each_old j h = elim (cases_eq (get_or keys j 0) key) [
    | inl same ↦ (let e = is.each j h in let k = first_was (leader_at leaders j) (ap (first_at firsts) (sym same) ∙ e) in
        ap (first_at now) same ∙ here ∙ ap (λ x. Some x) (k ∙ sym (old_leader j h)))
    | inr apart ↦ other (get_or keys j 0) apart ∙ is.each j h ∙ ap (λ x. Some x) (sym (old_leader j h))
  ]

  each_new : first_at now (get_or keys n 0) ≡ Some (leader_at more n)
  each_new = ap (first_at now) key_is ∙ here ∙ ap (λ x. Some x) (sym new_leader)

  below : (j : ℕ) → j < n + 1 → (j < n) ⊎ (j ≡ n)
  below j h = elim (cases_lt j n) [ inl less ↦ inl less | inr more ↦ inr (omega arith) ]

  -- one position more is in the class of its key
  pub one_more : AreFirsts keys (n + 1) now more
  one_more = record {
    count = length_push leaders first ∙ ap (λ m. m + 1) is.count;
    each = λ j h. elim (below j h) [
      | inl less ↦ each_old j less
      | inr e ↦ subst (λ m. first_at now (get_or keys m 0) ≡ Some (leader_at more m)) (sym e) each_new
    ];
    found = λ k f h. elim (cases_eq k key) [
      | inl same ↦ (let e = some_inside first f (sym here ∙ ap (first_at now) (sym same) ∙ h) in
          (let u = first_key.1 in omega arith, ap (λ x. get_or keys x 0) (sym e) ∙ first_key.0 ∙ sym same))
      | inr apart ↦ (let e = is.found k f (sym (other k apart) ∙ h) in (omega (arith, e.0), e.1))
    ];
    before = λ j h. elim (below j h) [
      | inl less ↦ (let e = is.before j less in let s = old_leader j less in omega arith)
      | inr e ↦ (let s = ap (leader_at more) e ∙ new_leader in let u = first_key.1 in omega arith)
    ];
  }

module _ (keys : List ℕ) (firsts : List (Option ℕ)) (leaders : List ℕ)
    (is : AreFirsts keys (length keys) firsts leaders) where
  leader_key : (j : ℕ) → j < length keys → (leader_at leaders j < length keys) ×
      (get_or keys (leader_at leaders j) 0 ≡ get_or keys j 0)
  leader_key j h = is.found (get_or keys j 0) (leader_at leaders j) (is.each j h)

  -- the leaders of all positions lead themselves
  pub all_lead : length keys < 2 ^ 32 → AreLeaders leaders
  all_lead few = record {
    few = let e = is.count in omega arith;
    before = λ i h. is.before i (let e = is.count in omega arith);
    itself = λ i h. let inside : i < length keys = (let e = is.count in omega arith) in let k = leader_key i inside in
        some_inside (leader_at leaders (leader_at leaders i)) (leader_at leaders i)
        (sym (is.each (leader_at leaders i) k.0) ∙ ap (first_at firsts) k.1 ∙ is.each i inside);
  }

  same_tests : (a b c d : ℕ) → (a ≡ b → c ≡ d) → (c ≡ d → a ≡ b) → eqb a b ≡ eqb c d
  same_tests a b c d to from = elim (cases_eq a b) [
    | inl same ↦ eq-eqb a b same ∙ sym (eq-eqb c d (to same))
    | inr apart ↦ ne_eqb a b apart ∙ sym (ne_eqb c d (λ e. apart (from e)))
  ]

  -- and two positions have one leader exactly where they have one key
  pub all_by_keys : AreByKeys keys leaders
  all_by_keys = record {
    count = is.count;
    one = λ i j h k. same_tests (leader_at leaders i) (leader_at leaders j) (get_or keys i 0) (get_or keys j 0)
        (λ e. sym (leader_key i h).1 ∙ ap (λ x. get_or keys x 0) e ∙ (leader_key j k).1)
        (λ e. some_inside (leader_at leaders i) (leader_at leaders j) (sym (is.each i h) ∙ ap (first_at firsts) e ∙ is.each j k));
  }
