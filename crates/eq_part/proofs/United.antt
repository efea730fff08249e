-- Unions of partitions.
use Rattle.std.proofs.Common.{◌≡◌, ℕ, ◌<◌, ◌≤◌, ◌⊎◌, inl, inr, List, None, Bool, true, false, not, ◌&&◌, ◌||◌, cond, length, refl, arith, sym, ap, ◌∙◌}
use Rattle.std.proofs.lemmas.Bool.{and_from, and_left, and_parts, and_right, cond-true, cond-false, eqb-true, eq-eqb, false_from_ne_true, ne_eqb, not-true}
use Rattle.eq_model.specs.Cut.{any_below}
use Rattle.eq_match.specs.declared.types.Pair.{Pair}
use Rattle.eq_match.specs.Classes.{SameClasses, gathered}
use Rattle.eq_match.specs.Groups.{is_held}
use Rattle.eq_match.specs.Leaders.{AreLeaders, leader_at, one_leader}
use Rattle.eq_part.specs.declared.state.State.{State}
use Rattle.eq_part.specs.Partitions.{SameDivision, are_several, union}
use Rattle.eq_part.specs.inner.States.{AreFilled, AreForgotten, IsState, division_of, is_chosen, name_at}
use Rattle.eq_part.proofs.AnyBelow.{found_below, not_below, some_below}

module _ (pairs : List Pair) (marked : ℕ → Bool) (leaders : List ℕ) where
  abbrev pub chosen : ℕ → Bool
  chosen = is_chosen pairs marked

  abbrev others : ℕ → ℕ → Bool
  others i j = is_held pairs j && marked j && not (one_leader leaders i j)

  pub none_chosen : ((i : ℕ) → i < length pairs → chosen i ≡ false) → are_several pairs marked (one_leader leaders) ≡ false
  none_chosen none = not_below (length pairs) (λ i. chosen i && any_below (length pairs) (others i))
      (λ i h. and_left (chosen i) _ (none i h))

  pub two_leaders : (i j : ℕ) → i < length pairs → j < length pairs → chosen i ≡ true → chosen j ≡ true →
      (leader_at leaders i ≡ leader_at leaders j → ⊥) → are_several pairs marked (one_leader leaders) ≡ true
  two_leaders i j h k a b apart = some_below (length pairs) (λ m. chosen m && any_below (length pairs) (others m)) i h
      (and_from (chosen i) _ a (some_below (length pairs) (others i) j k
      (and_from (chosen j) _ b (ap not (ne_eqb (leader_at leaders i) (leader_at leaders j) apart)))))

  pub one_chosen : (leader : ℕ) → ((i : ℕ) → i < length pairs → chosen i ≡ true → leader_at leaders i ≡ leader) →
      are_several pairs marked (one_leader leaders) ≡ false
  one_chosen leader all = not_below (length pairs) (λ i. chosen i && any_below (length pairs) (others i))
      (λ i h. false_from_ne_true _ (λ t.
      let p = and_parts (chosen i) _ t in let f = found_below (length pairs) (others i) p.1 in
      let q = and_parts (chosen f.0) _ f.2 in
      let s = eq-eqb (leader_at leaders i) (leader_at leaders f.0) (all i h p.0 ∙ sym (all f.0 f.1 q.0)) in
      let u = sym s ∙ not-true _ q.1 in absurd (cc)))

  pub several_tests : length pairs ≡ length leaders → (leader : ℕ) →
      ((i : ℕ) × (i < length leaders) × (chosen i ≡ true) × (leader_at leaders i ≡ leader)) → (other : Bool) →
      (other ≡ true → (i : ℕ) × (i < length leaders) × (chosen i ≡ true) × (leader_at leaders i ≡ leader → ⊥)) →
      (other ≡ false → (i : ℕ) → i < length leaders → chosen i ≡ true → leader_at leaders i ≡ leader) →
      other ≡ are_several pairs marked (one_leader leaders)
  several_tests count leader one true some none = let s = some refl in
      sym (two_leaders one.0 s.0 (omega (arith, one.1)) (omega (arith, s.1)) one.2 s.2 (λ e. s.3 (sym e ∙ one.3)))
  several_tests count leader one false some none = sym (one_chosen leader (λ i h. none refl i (omega arith)))

united_tests : (x m k : Bool) → (x ≡ true → m ≡ k) → ((m && k) || (not m && not k && x)) ≡ (x || (m && k))
united_tests true true true e = refl
united_tests true true false e = absurd (let t = e refl in cc)
united_tests true false true e = absurd (let t = e refl in cc)
united_tests true false false e = refl
united_tests false true true e = refl
united_tests false true false e = refl
united_tests false false true e = refl
united_tests false false false e = refl

same_or : (x y : Bool) → (x ≡ false → y ≡ false) → x ≡ (x || y)
same_or true y e = refl
same_or false y e = sym (e refl)

gathered_parts : (x m k : Bool) → ((m && k) || (not m && not k && x)) ≡ true → ((m ≡ true) × (k ≡ true)) ⊎ ((m ≡ false) × (k ≡ false) × (x ≡ true))
gathered_parts x true true e = inl (refl, refl)
gathered_parts x true false e = absurd (cc)
gathered_parts x false true e = absurd (cc)
gathered_parts x false false e = inr (refl, refl, e)

module _ (pairs : List Pair) (s : State) (marked : ℕ → Bool) (is : IsState pairs s) (fill : AreFilled pairs s marked) where
  -- one partition alone stays as it is
  pub stays : are_several pairs marked (one_leader s.classes) ≡ false →
      SameDivision (length pairs) (division_of s) (union pairs marked (division_of s))
  stays alone = record {
    together = λ i j h k. same_or (one_leader s.classes i j) (marked i && marked j) (λ apart.
        false_from_ne_true (marked i && marked j) (λ t.
        let p = and_parts (marked i) (marked j) t in
        let several = two_leaders pairs marked s.classes i j h k
        (and_from (is_held pairs i) (marked i) (fill.held i h p.0) p.0)
        (and_from (is_held pairs j) (marked j) (fill.held j k p.1) p.1)
        (λ e. let u = sym (eq-eqb (leader_at s.classes i) (leader_at s.classes j) e) ∙ apart in absurd (cc)) in
        let u = sym several ∙ alone in absurd (cc)));
    called = λ i h. sym (cond-false (are_several pairs marked (one_leader s.classes) && marked i) None
        (name_at s.names (leader_at s.classes i)) (and_left _ (marked i) alone));
  }

  module _ (after : State) (several : are_several pairs marked (one_leader s.classes) ≡ true)
      (count : length after.classes ≡ length s.classes) (lead : AreLeaders after.classes)
      (same : SameClasses (length s.classes) (one_leader after.classes) (gathered marked (one_leader s.classes)))
      (forgotten : AreForgotten marked (length pairs) s.names after.names) where
    abbrev old : ℕ → ℕ
    old = leader_at s.classes

    abbrev new : ℕ → ℕ
    new = leader_at after.classes

    parts : (i j : ℕ) → i < length pairs → j < length pairs → new i ≡ new j →
        ((marked i ≡ true) × (marked j ≡ true)) ⊎ ((marked i ≡ false) × (marked j ≡ false) × (one_leader s.classes i j ≡ true))
    parts i j h k e = let c = is.count in
        gathered_parts (one_leader s.classes i j) (marked i) (marked j)
        (sym (same i j (omega arith) (omega arith)) ∙ eq-eqb (new i) (new j) e)

    new_before : (i : ℕ) → i < length pairs → new i ≤ i
    new_before i h = lead.before i (let c = is.count in let d = count in omega arith)

    new_inside : (i : ℕ) → i < length pairs → new i < length pairs
    new_inside i h = let b = new_before i h in omega arith

    new_itself : (i : ℕ) → i < length pairs → new (new i) ≡ new i
    new_itself i h = lead.itself i (let c = is.count in let d = count in omega arith)

    old_before : (i : ℕ) → i < length pairs → old i ≤ i
    old_before i h = is.lead.before i (let c = is.count in omega arith)

    old_itself : (i : ℕ) → i < length pairs → old (old i) ≡ old i
    old_itself i h = is.lead.itself i (let c = is.count in omega arith)

    -- an unmarked position keeps its leader
    kept_leader : (i : ℕ) → i < length pairs → marked i ≡ false → new i ≡ old i
    kept_leader i h e =
        let low : old i ≤ new i = elim (parts (new i) i (new_inside i h) h (new_itself i h)) [
          | inl p ↦ absurd (let t = sym p.1 ∙ e in cc)
          | inr p ↦ (let one = eqb-true (old (new i)) (old i) p.2 in let b = old_before (new i) (new_inside i h) in omega arith)
        ] in
        let inside : old i < length pairs = (let b = old_before i h in omega arith) in
        let unmarked : marked (old i) ≡ false = fill.filled (old i) i inside h (old_itself i h) ∙ e in
        let high : new i ≤ old i = (
        let c = is.count in
        let together : gathered marked (one_leader s.classes) (old i) i ≡ true =
        ap (λ m. (m && marked i) || (not m && not (marked i) && one_leader s.classes (old i) i)) unmarked ∙
        ap (λ m. not m && one_leader s.classes (old i) i) e ∙ eq-eqb (old (old i)) (old i) (old_itself i h) in
        let one = eqb-true (new (old i)) (new i) (same (old i) i (omega arith) (omega arith) ∙ together) in
        let b = new_before (old i) inside in omega arith) in
        omega arith

    named : (i : ℕ) → i < length pairs → (b : Bool) → marked i ≡ b →
        name_at after.names (new i) ≡ cond (are_several pairs marked (one_leader s.classes) && marked i) None (name_at s.names (old i))
    named i h true e =
        let m : marked (new i) ≡ true = elim (parts (new i) i (new_inside i h) h (new_itself i h)) [
          | inl p ↦ p.0
          | inr p ↦ absurd (let t = sym e ∙ p.1 in cc)
        ] in
        forgotten.each (new i) (new_inside i h) ∙ cond-true (marked (new i)) None (name_at s.names (new i)) m ∙
        sym (cond-true _ None (name_at s.names (old i)) (and_from _ (marked i) several e))
    named i h false e =
        let k = kept_leader i h e in
        let inside : old i < length pairs = (let b = old_before i h in omega arith) in
        ap (name_at after.names) k ∙ forgotten.each (old i) inside ∙
        cond-false (marked (old i)) None (name_at s.names (old i)) (fill.filled (old i) i inside h (old_itself i h) ∙ e) ∙
        sym (cond-false (are_several pairs marked (one_leader s.classes) && marked i) None (name_at s.names (old i))
        (ap (λ m. are_several pairs marked (one_leader s.classes) && m) e ∙ and_right (are_several pairs marked (one_leader s.classes)) false refl))

    pub still_state : IsState pairs after
    still_state = record {
      count = count ∙ is.count;
      names = forgotten.count ∙ is.names;
      lead = lead;
      alike = λ i j h k e. elim (parts i j h k e) [
        | inl p ↦ fill.held i h p.0 ∙ sym (fill.held j k p.1)
        | inr p ↦ is.alike i j h k (eqb-true (old i) (old j) p.2)
      ];
    }

    -- several partitions are one, without a name
    pub become_one : SameDivision (length pairs) (division_of after) (union pairs marked (division_of s))
    become_one = record {
      together = λ i j h k. let c = is.count in same i j (omega arith) (omega arith) ∙
          united_tests (one_leader s.classes i j) (marked i) (marked j) (λ e. fill.filled i j h k (eqb-true (old i) (old j) e));
      called = λ i h. named i h (marked i) refl;
    }
