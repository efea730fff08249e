-- Conflict analysis, one place after the other.
use Rattle.std.proofs.Common.{Ok, Err, Result, OnOk, ◌≡◌, ◌≢◌, ℕ, ◌<◌, ◌≤◌, suc, inl, inr, Bool, true, false, not, List, [], ◌∷◌, ◌++◌, length, map, set, take, reverse, get_or, slice_get, Some, arith, refl, sym, ap, ◌∙◌, subst, get_or-set_same, get_or-set_other}
use Rattle.std.specs.Prelude.{Contains}
use Rattle.std.proofs.lemmas.Bool.{cases_eq}
use Rattle.std.proofs.lemmas.List.{length-set, reverse-append}
use Rattle.std.proofs.lemmas.List.Elements.{All-push, All-nil, All-contains, Contains-get_or, Contains-push, Contains-push_cases, Contains-append_left}
use Rattle.std.proofs.lemmas.Option.{slice_get_within}
use Rattle.eq_proof.specs.Literal.{Literal, negation}
use Rattle.eq_proof.specs.Sets.{IsFalsified, IsUnit}
use Rattle.eq_proof.specs.Assigned.{AllBelow}
use Rattle.eq_proof.specs.Derivation.{HasNumber, Refutes, IsDerivation}
use Rattle.eq_proof.proofs.Negations.{negation_twice, from_negations, to_negations}
use Rattle.eq_cdcl.specs.inner.Sound.{AreApart}
use Rattle.eq_cdcl.specs.inner.Asserting.{Keeps}
use Rattle.eq_cdcl.specs.inner.Resolved.{marked, MarksToo, IsResolved}
use Rattle.eq_cdcl.proofs.Places.{member_place, place_member, taken_member, member_taken, same_place}

wider : (lits : List Literal) (p : ℕ) (l : Literal) → Contains (take p lits) l → Contains (take (suc p) lits) l
wider lits p l h = let at = taken_member p lits l h in member_taken (suc p) lits at.0 l (omega (arith, at.1)) at.2

true_false : (b : Bool) → b ≡ true → b ≡ false → ⊥
true_false true e f = absurd (cc)
true_false false e f = absurd (cc)

-- a place that isn't marked
pub resolved_skip : (known : List (List Literal)) (lits : List Literal) (p : ℕ) (marks : List Bool) (kept : List Literal) (ants : List ℕ) → IsResolved known lits (suc p) marks kept ants → marked marks p ≡ false → IsResolved known lits p marks kept ants
resolved_skip known lits p marks kept ants r none = record {
  room = r.room;
  cleared = λ q le. elim (cases_eq q p) [ inl is ↦ ap (λ n. marked marks n) is ∙ none | inr ne ↦ r.cleared q (omega arith) ];
  above = λ k h. let at = r.above k h in (at.0, omega (arith, at.1), at.2);
  refutes = λ s e. r.refutes s (record {
    only = λ l h. elim (e.only l h) [ inl lower ↦ inl (wider lits p l lower) | inr k ↦ inr k ];
    there = λ q l lt at mark. elim (cases_eq q p) [
      | inl is ↦ absurd (true_false (marked marks p) (ap (λ n. marked marks n) (sym is) ∙ mark) none)
      | inr ne ↦ e.there q l (omega arith) at mark
    ];
    negated = e.negated;
  });
  from_one = r.from_one;
}

-- a literal that is kept
pub resolved_keep : (known : List (List Literal)) (lits : List Literal) (p : ℕ) (marks : List Bool) (kept : List Literal) (ants : List ℕ) (x : Literal) → IsResolved known lits (suc p) marks kept ants → slice_get lits p ≡ Some x
    → IsResolved known lits p (set marks p false) (kept ++ negation x ∷ []) ants
resolved_keep known lits p marks kept ants x r at =
    let new = set marks p false in
    let below = slice_get_within lits p x at in
    let room = r.room in
    let other : (q : ℕ) → q ≢ p → marked new q ≡ marked marks q = λ q ne. get_or-set_other marks p q false false ne in
    record {
      room = omega (arith, length-set marks p false);
      cleared = λ q le. elim (cases_eq q p) [
        | inl is ↦ ap (λ n. marked new n) is ∙ get_or-set_same marks p false false (omega arith)
        | inr ne ↦ other q ne ∙ r.cleared q (omega arith)
      ];
      above = λ k h. elim (Contains-push_cases kept (negation x) k h) [
        | inl old ↦ (let a = r.above k old in (a.0, omega (arith, a.1), a.2))
        | inr is ↦ (p, omega arith, at ∙ ap Some (sym (negation_twice x) ∙ ap negation is))
      ];
      refutes = λ s e. r.refutes s (record {
        only = λ l h. elim (e.only l h) [
          | inl lower ↦ inl (wider lits p l lower)
          | inr k ↦ elim (Contains-push_cases kept (negation x) (negation l) k) [
            | inl old ↦ inr old
            | inr is ↦
                let same : x ≡ l = sym (negation_twice x) ∙ ap negation is ∙ negation_twice l in
                inl (subst (Contains (take (suc p) lits)) same (member_taken (suc p) lits p x (omega arith) at))
          ]
        ];
        there = λ q l lt here mark. elim (cases_eq q p) [
          | inl is ↦
              let same : x ≡ l = same_place lits q x l (ap (λ n. slice_get lits n) is ∙ at) here in
              subst (Contains s) (negation_twice x ∙ same) (e.negated (negation x) (Contains-push kept (negation x)))
          | inr ne ↦ e.there q l (omega arith) here (other q ne ∙ mark)
        ];
        negated = λ k h. e.negated k (Contains-append_left kept (negation x ∷ []) k h);
      });
      from_one = r.from_one;
    }

-- an antecedent that is unit, before others
refutes_more : (known : List (List Literal)) (s : List Literal) (n : ℕ) (ns : List ℕ) (clause : List Literal) (l : Literal) → HasNumber known n clause → IsUnit s clause l → Refutes known (s ++ l ∷ []) ns → Refutes known s (n ∷ ns)
refutes_more known s n [] clause l number unit r = absurd r
refutes_more known s n (m ∷ ns) clause l number unit r = (clause, l, number, unit, r)

-- a literal that is resolved away by its reason
pub resolved_away : (known : List (List Literal)) (lits : List Literal) (p : ℕ) (marks marks' : List Bool) (kept : List Literal) (ants : List ℕ) (x : Literal) (n : ℕ) (clause : List Literal) → AreApart lits → IsResolved known lits (suc p) marks kept ants → slice_get lits p ≡ Some x
    → HasNumber known n clause → IsUnit (take p lits) clause x → MarksToo lits clause (suc p) marks marks' → IsResolved known lits p (set marks' p false) kept (ants ++ n ∷ [])
resolved_away known lits p marks marks' kept ants x n clause apart r at number unit more =
    let new = set marks' p false in
    let below = slice_get_within lits p x at in
    let room = r.room in
    let len = more.same in
    let other : (q : ℕ) → q ≢ p → marked new q ≡ marked marks' q = λ q ne. get_or-set_other marks' p q false false ne in
    let not_kept : (y : Literal) → y.var ≡ x.var → Contains kept (negation y) → ⊥ = λ y same k.
    let a = r.above (negation y) k in
    let e : a.0 ≡ p = apart a.0 p (negation (negation y)) x a.2 at same in
    absurd (let h = a.1 in omega arith) in
    record {
      room = omega (arith, length-set marks' p false);
      cleared = λ q le. elim (cases_eq q p) [
        | inl is ↦ ap (λ n. marked new n) is ∙ get_or-set_same marks' p false false (omega arith)
        | inr ne ↦ other q ne ∙ more.above q (omega arith) ∙ r.cleared q (omega arith)
      ];
      above = λ k h. let a = r.above k h in (a.0, omega (arith, a.1), a.2);
      refutes = λ s e.
          let s_unit : IsUnit s clause x = record {
            member = unit.member;
            no_value = (
              λ h. elim (e.only x h) [ inl lower ↦ unit.no_value.0 lower | inr k ↦ not_kept x refl k ],
              λ h. elim (e.only (negation x) h) [ inl lower ↦ unit.no_value.1 lower | inr k ↦ not_kept (negation x) refl k ],
            );
            others = λ k d h. elim (unit.others k d h) [
              | inl is ↦ inl is
              | inr false_one ↦
                  let m = get_or clause k d in
                  let place = taken_member p lits (negation m) false_one in
                  let mark = more.all k d h place.0 (negation m) place.2 refl in
                  inr (e.there place.0 (negation m) place.1 place.2 (other place.0 (let lt = place.1 in omega arith) ∙ mark))
            ];
          } in
          let P : List ℕ → Type 0 = Refutes known s in
          subst P (sym (reverse-append ants (n ∷ []))) (refutes_more known s n (reverse ants) clause x number s_unit (r.refutes (s ++ x ∷ []) (record {
            only = λ l h. elim (Contains-push_cases s x l h) [
              | inl old ↦ elim (e.only l old) [ inl lower ↦ inl (wider lits p l lower) | inr k ↦ inr k ]
              | inr is ↦ inl (subst (Contains (take (suc p) lits)) is (member_taken (suc p) lits p x (omega arith) at))
            ];
            there = λ q l lt here mark. elim (cases_eq q p) [
              | inl is ↦ subst (Contains (s ++ x ∷ [])) (same_place lits q x l (ap (λ n. slice_get lits n) is ∙ at) here) (Contains-push s x)
              | inr ne ↦ Contains-append_left s (x ∷ []) l (e.there q l (omega arith) here (other q ne ∙ more.kept q mark))
            ];
            negated = λ k h. Contains-append_left s (x ∷ []) (negation k) (e.negated k h);
          })));
      from_one = All-push (λ n. 1 ≤ n) ants n r.from_one (let h = number.0 in omega arith);
    }

-- the clause that is falsified
pub resolved_start : (known : List (List Literal)) (lits : List Literal) (marks marks' : List Bool) (n : ℕ) (clause : List Literal) → length lits ≤ length marks → ((p : ℕ) → marked marks p ≡ false) → HasNumber known n clause → IsFalsified lits clause → MarksToo lits clause (length lits) marks marks'
    → IsResolved known lits (length lits) marks' [] (n ∷ [])
resolved_start known lits marks marks' n clause room clear number falsified more = record {
  room = omega (arith, more.same);
  cleared = λ q le. more.above q le ∙ clear q;
  above = λ k h. absurd (let none : h.0 < 0 = h.1 in omega arith);
  refutes = λ s e. (
    clause,
    number,
    λ k d h.
        let m = get_or clause k d in
        let place = member_place lits (negation m) (falsified k d h) in
        e.there place.0 (negation m) (slice_get_within lits place.0 (negation m) place.1) place.1 (more.all k d h place.0 (negation m) place.1 refl),
  );
  from_one = All-push (λ n. 1 ≤ n) [] n (All-nil (λ n. 1 ≤ n)) (let h = number.0 in omega arith);
}

not_not : (b : Bool) → b ≡ not b → ⊥
not_not true e = absurd (cc)
not_not false e = absurd (cc)

-- at the end the kept literals are derived
pub resolved_end : (known : List (List Literal)) (lits : List Literal) (marks : List Bool) (kept : List Literal) (ants : List ℕ) (clause : List Literal) → AreApart lits → IsResolved known lits 0 marks kept ants → ((l : Literal) → Contains clause l → Contains kept l) → ((l : Literal) → Contains kept l → Contains clause l)
    → IsDerivation known (record { clause = clause; ants = reverse ants })
resolved_end known lits marks kept ants clause apart r few many = record {
  no_tautology = λ l h k.
      let p = r.above l (few l h) in
      let q = r.above (negation l) (few (negation l) k) in
      let same : p.0 ≡ q.0 = apart p.0 q.0 (negation l) (negation (negation l)) p.2 q.2 refl in
      let e : negation l ≡ negation (negation l) = same_place lits q.0 (negation l) (negation (negation l)) (ap (λ n. slice_get lits n) (sym same) ∙ p.2) q.2 in
      not_not (negation l).positive (ap (λ (m : Literal). m.positive) e);
  refuted = r.refutes (map negation clause) (record {
    only = λ l h. inr (few (negation l) (from_negations clause l h));
    there = λ p l lt at mark. absurd (omega arith);
    negated = λ k h. to_negations clause k (many k h);
  });
}

pub resolved_kept : (known : List (List Literal)) (lits : List Literal) (p : ℕ) (marks marks' : List Bool) (kept kept' : List Literal) (ants : List ℕ) → IsResolved known lits (suc p) marks kept ants → Keeps lits p kept kept' → marks' ≡ set marks p false → IsResolved known lits p marks' kept' ants
resolved_kept known lits p marks marks' kept kept' ants r keeps is =
    let P : List Literal → Type 0 = λ k. IsResolved known lits p marks' k ants in
    let Q : List Bool → Type 0 = λ m. IsResolved known lits p m (kept ++ negation keeps.0 ∷ []) ants in
    subst P (sym keeps.2) (subst Q (sym is) (resolved_keep known lits p marks kept ants keeps.0 r keeps.1))

-- a place that isn't marked, one below another
pub resolved_down : (known : List (List Literal)) (lits : List Literal) (n p : ℕ) (marks : List Bool) (kept : List Literal) (ants : List ℕ) → n ≡ suc p → IsResolved known lits n marks kept ants → marked marks p ≡ false → IsResolved known lits p marks kept ants
resolved_down known lits n p marks kept ants e r none =
    let P : ℕ → Type 0 = λ k. IsResolved known lits k marks kept ants in
    resolved_skip known lits p marks kept ants (subst P e r) none

-- what follows from two facts of an `Ok`
pub on_both : {T E A B C : Type 0} (r : Result T E) → (A → B → C) → OnOk r A → OnOk r B → OnOk r C
on_both (Ok x) f a b = f a b
on_both (Err e) f a b = tt

-- the learned clause's variables have values
pub resolved_below : (known : List (List Literal)) (lits : List Literal) (size : ℕ) (marks : List Bool) (kept : List Literal) (ants : List ℕ) (clause : List Literal) → IsResolved known lits 0 marks kept ants → AllBelow size lits → ((l : Literal) → Contains clause l → Contains kept l) → AllBelow size clause
resolved_below known lits size marks kept ants clause r within few k d h =
    let l = get_or clause k d in
    let at = r.above l (few l (Contains-get_or clause k d h)) in
    let P : Literal → Type 0 = λ l. l.var < size in
    let below : P (negation l) = All-contains P lits (negation l) within (place_member lits at.0 (negation l) at.2) in
    below

-- a list without members is empty
pub no_member : (xs : List Literal) → ((l : Literal) → Contains xs l → Contains [] l) → xs ≡ []
no_member [] h = refl
no_member (x ∷ xs) h = absurd (let none = h x (0, omega arith, refl) in let lt : none.0 < 0 = none.1 in omega arith)
