-- One position more is listed.
use Rattle.std.proofs.Common.{◌≡◌, ℕ, suc, ◌<◌, ◌+◌, ◌⊎◌, inl, inr, List, [], ◌∷◌, ◌++◌, Option, Some, None, Bool, true, false, ◌&&◌, ltb, length, set, get_or, refl, arith, sym, ap, ◌∙◌, add-one, get_or-set_same, get_or-set_other}
use Rattle.std.proofs.lemmas.Bool.{cases_eq, cases_lt, and_parts, and_left, and_from, cond-true, cond-false, eqb-true, false_from_ne_true, lt-ltb, le-ltb}
use Rattle.eq_match.specs.Classes.{classes_to, is_first}
use Rattle.eq_match.specs.Leaders.{leader_at, one_leader}
use Rattle.eq_match.specs.inner.Begun.{AreBegun, added, rank}
use Rattle.eq_match.specs.inner.Leading.{first_at, first_or}
use Rattle.eq_match.proofs.Lists.{at_no, at_yes, changed, count, first_parts, is_the_first, passing_none, passing_yes, rank_more, together, unchanged}

some_place : (x y : ℕ) → Some x ≡ Some y → x ≡ y
some_place x y e = cc

below : (j i : ℕ) → j < i + 1 → (j < i) ⊎ (j ≡ i)
below j i h = elim (cases_lt j i) [ inl less ↦ inl less | inr more ↦ inr (omega arith) ]

one_step : (held : ℕ → Bool) (t : ℕ → ℕ → Bool) (i : ℕ) → classes_to (i + 1) held t (i + 1) ≡ classes_to (i + 1) held t (suc i)
one_step held t i = ap (classes_to (i + 1) held t) (add-one i)

module _ (held : ℕ → Bool) (leaders : List ℕ) (i : ℕ) (slots : List (Option ℕ)) (lists : List (List ℕ))
    (is : AreBegun held leaders i slots lists) where
  abbrev pub T : ℕ → ℕ → Bool
  T = one_leader leaders

  -- a position that isn't held stands in no list
  pub passed_over : held i ≡ false → AreBegun held leaders (i + 1) slots lists
  passed_over not_held = record {
    lists_are = is.lists_are ∙
        sym (one_step held T i ∙ at_no held leaders (i + 1) i (and_left (held i) _ not_held) ∙
        unchanged held leaders i i (λ f h e. and_left (held i) (T f i) not_held));
    placed = λ j h is_held. elim (below j i h) [
      | inl less ↦ (let p = is.placed j less is_held in (p.0, omega (arith, p.1), p.2, p.3, p.4))
      | inr e ↦ absurd (let t = sym is_held ∙ ap held e ∙ not_held in cc)
    ];
    found = λ l s e. let p = is.found l s e in (p.0, omega (arith, p.1), p.2, p.3);
  }

  module _ (slot : ℕ) (is_held : held i ≡ true) (within : leader_at leaders i < length slots) where
    abbrev pub now : List (Option ℕ)
    now = set slots (leader_at leaders i) (Some slot)

    here : first_at now (leader_at leaders i) ≡ Some slot
    here = get_or-set_same slots (leader_at leaders i) (Some slot) None within

    other : (l : ℕ) → (l ≡ leader_at leaders i → ⊥) → first_at now l ≡ first_at slots l
    other l apart = get_or-set_other slots (leader_at leaders i) l (Some slot) None apart

    -- its leader has a list, that of its first position
    module _ (was : first_at slots (leader_at leaders i) ≡ Some slot) where
      before : (j : ℕ) × (j < i) × (held j ≡ true) × (leader_at leaders j ≡ leader_at leaders i)
      before = is.found (leader_at leaders i) slot was

      first_one : (f : ℕ) × (f < i) × (is_first held T f ≡ true) × (leader_at leaders f ≡ leader_at leaders i) ×
          (slot ≡ rank held T f)
      first_one =
          let p = is.placed before.0 before.1 before.2 in
          (p.0, p.1, p.2, p.3 ∙ before.3, some_place slot (rank held T p.0) (sym was ∙ ap (first_at slots) (sym before.3) ∙ p.4))

      same_slots : (l : ℕ) → first_at now l ≡ first_at slots l
      same_slots l = elim (cases_eq l (leader_at leaders i)) [
        | inl e ↦ ap (first_at now) e ∙ here ∙ sym was ∙ ap (first_at slots) (sym e)
        | inr apart ↦ other l apart
      ]

      not_first : is_first held T i ≡ false
      not_first = false_from_ne_true (is_first held T i) (λ e.
          let f = first_one.0 in let fails = (first_parts held leaders i e).1 f first_one.1 in
          let holds = and_from (held f) (T i f) (first_parts held leaders f first_one.2).0
          (together held leaders i f (sym first_one.3)) in
          let t = sym holds ∙ fails in absurd (cc))

      joined : added lists slot i ≡ classes_to (i + 1) held T (i + 1)
      joined =
          let f = first_one.0 in
          let lt : slot < length lists = (let e = ap length is.lists_are ∙ count held leaders i i in
          let r = rank_more held leaders f i first_one.1 first_one.2 in let s = first_one.4 in omega arith) in
          cond-true (ltb slot (length lists)) _ _ (lt-ltb slot (length lists) lt) ∙
          ap (λ ls. set ls slot (get_or ls slot [] ++ i ∷ [])) is.lists_are ∙
          ap (λ s. set (classes_to i held T i) s (get_or (classes_to i held T i) s [] ++ i ∷ [])) first_one.4 ∙
          sym (changed held leaders i f i is_held first_one.2 first_one.3 first_one.1) ∙
          sym (at_no held leaders (i + 1) i not_first) ∙ sym (one_step held T i)

      pub put_behind : AreBegun held leaders (i + 1) now (added lists slot i)
      put_behind = record {
        lists_are = joined;
        placed = λ j h holds. elim (below j i h) [
          | inl less ↦ (let p = is.placed j less holds in
              (p.0, omega (arith, p.1), p.2, p.3, same_slots (leader_at leaders j) ∙ p.4))
          | inr e ↦ (
            first_one.0,
            omega (arith, first_one.1),
            first_one.2,
            first_one.3 ∙ ap (leader_at leaders) (sym e),
            ap (λ k. first_at now (leader_at leaders k)) e ∙ here ∙ ap (λ x. Some x) first_one.4,
          )
        ];
        found = λ l s e. let p = is.found l s (sym (same_slots l) ∙ e) in (p.0, omega (arith, p.1), p.2, p.3);
      }

    -- it is the first of its class
    module _ (was : first_at slots (leader_at leaders i) ≡ None) (slot_is : slot ≡ length lists) where
      alone : (j : ℕ) → j < i → held j ≡ true → leader_at leaders j ≡ leader_at leaders i → ⊥
      alone j h holds e =
          let p = is.placed j h holds in let t = sym was ∙ ap (first_at slots) (sym e) ∙ p.4 in absurd (cc)

      none_before : (j : ℕ) → j < i → (held j && T i j) ≡ false
      none_before j h = false_from_ne_true (held j && T i j) (λ t.
          let parts = and_parts (held j) (T i j) t in
          alone j h parts.0 (sym (eqb-true (leader_at leaders i) (leader_at leaders j) parts.1)))

      now_first : is_first held T i ≡ true
      now_first = is_the_first held leaders i is_held none_before

      led : (f : ℕ) → f < i → is_first held T f ≡ true → (held i && T f i) ≡ false
      led f h e = false_from_ne_true (held i && T f i) (λ t.
          let parts = and_parts (held i) (T f i) t in
          alone f h (first_parts held leaders f e).0 (eqb-true (leader_at leaders f) (leader_at leaders i) parts.1))

      begun : added lists slot i ≡ classes_to (i + 1) held T (i + 1)
      begun =
          cond-false (ltb slot (length lists)) _ _ (le-ltb slot (length lists) (omega arith)) ∙
          ap (λ ls. ls ++ (i ∷ []) ∷ []) (is.lists_are ∙ sym (unchanged held leaders i i led)) ∙
          ap (λ xs. classes_to (i + 1) held T i ++ (xs ++ i ∷ []) ∷ [])
          (sym (passing_none i (λ j. held j && T i j) none_before)) ∙
          ap (λ xs. classes_to (i + 1) held T i ++ xs ∷ [])
          (sym (passing_yes i (λ j. held j && T i j) (and_from (held i) (T i i) is_held (together held leaders i i refl)))) ∙
          sym (at_yes held leaders (i + 1) i now_first) ∙ sym (one_step held T i)

      new_slot : slot ≡ rank held T i
      new_slot = slot_is ∙ ap length is.lists_are ∙ count held leaders i i

      pub put_first : AreBegun held leaders (i + 1) now (added lists slot i)
      put_first = record {
        lists_are = begun;
        placed = λ j h holds. elim (below j i h) [
          | inl less ↦ (let p = is.placed j less holds in
              (p.0, omega (arith, p.1), p.2, p.3, other (leader_at leaders j) (λ e. alone j less holds e) ∙ p.4))
          | inr e ↦ (
            i,
            omega arith,
            now_first,
            ap (leader_at leaders) (sym e),
            ap (λ k. first_at now (leader_at leaders k)) e ∙ here ∙ ap (λ x. Some x) new_slot,
          )
        ];
        found = λ l s e. elim (cases_eq l (leader_at leaders i)) [
          | inl same ↦ (i, omega arith, is_held, sym same)
          | inr apart ↦ (let p = is.found l s (sym (other l apart) ∙ e) in (p.0, omega (arith, p.1), p.2, p.3))
        ];
      }

  put_at : (slot : ℕ) → held i ≡ true → leader_at leaders i < length slots → (o : Option ℕ) →
      first_at slots (leader_at leaders i) ≡ o → slot ≡ first_or o (length lists) →
      AreBegun held leaders (i + 1) (set slots (leader_at leaders i) (Some slot)) (added lists slot i)
  put_at slot is_held within (Some s) was e = put_behind slot is_held within (was ∙ ap (λ x. Some x) (sym e))
  put_at slot is_held within None was e = put_first slot is_held within was e

  -- a position that is held goes into the list of its leader
  pub put_in : (slot : ℕ) → held i ≡ true → leader_at leaders i < length slots →
      slot ≡ first_or (first_at slots (leader_at leaders i)) (length lists) →
      AreBegun held leaders (i + 1) (set slots (leader_at leaders i) (Some slot)) (added lists slot i)
  put_in slot is_held within e = put_at slot is_held within (first_at slots (leader_at leaders i)) refl e
