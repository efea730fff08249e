-- The kept literals, one place after the other, and what the learned clause says.
use Rattle.std.proofs.Common.{◌≡◌, ℕ, ◌-◌, ◌<◌, ◌≤◌, suc, zero, ◌⊎◌, inl, inr, Bool, true, false, List, [], ◌∷◌, ◌++◌, length, set, take, get_or, slice_get, Option, Some, None, arith, refl, sym, ap, ◌∙◌, subst, get_or-set_other}
use Rattle.std.specs.Prelude.{All, Contains}
use Rattle.std.proofs.lemmas.Bool.{cases_eq, cases_lt}
use Rattle.std.proofs.lemmas.List.{take-take}
use Rattle.std.proofs.lemmas.List.Elements.{All-push, All-nil, All-contains, Contains-get_or}
use Rattle.std.proofs.lemmas.Option.{slice_get_within}
use Rattle.eq_proof.specs.Literal.{Literal, negation}
use Rattle.eq_proof.specs.Sets.{IsFalse, IsFalsified, IsUnit}
use Rattle.eq_proof.specs.Fresh.{IsSettled, IsFresh}
use Rattle.eq_proof.proofs.Before.{get_left}
use Rattle.eq_proof.proofs.Negations.{negation_twice}
use Rattle.eq_cdcl.specs.inner.Assignment.{Assignment, cut_to}
use Rattle.eq_cdcl.specs.inner.Sound.{AreApart, IsExplained, IsSound}
use Rattle.eq_cdcl.specs.inner.Resolved.{marked, opens}
use Rattle.eq_cdcl.specs.inner.Asserting.{Keeps, Settles, IsAsserting, Asserts}
use Rattle.eq_cdcl.specs.inner.Teaching.{IsSecond}
use Rattle.eq_cdcl.specs.declared.trail.Reason.{Reason}
use Rattle.eq_cdcl.specs.declared.trail.Reason.TheVariants.{Decision, Implied}
use Rattle.eq_cdcl.proofs.Places.{place_member, taken_member, member_taken, taken_place, same_place, push_old, element_at}
use Rattle.eq_cdcl.proofs.Sounds.{sound_cut}
use Rattle.eq_cdcl.proofs.Counting.{opens_some}

-- the unique implication point alone
pub asserts_start : (lits : List Literal) (reasons : List Reason) (uip start : ℕ) (marks marks' : List Bool) (kept : List Literal) → marks' ≡ set marks uip false → Keeps lits uip [] kept → opens marks start uip ≡ 0 → start ≤ uip → slice_get reasons start ≡ Some Decision
    → Asserts lits reasons uip uip marks' kept start
asserts_start lits reasons uip start marks marks' kept is keeps none from decision = (
  keeps.0,
  keeps.1,
  record {
    others = [];
    kept_is = keeps.2;
    lower = All-nil (IsFalse (take start lits));
    below = λ p lt mark. elim (cases_lt p start) [
      | inl h ↦ h
      | inr h ↦
          let was : marked marks p ≡ true = sym (get_or-set_other marks uip p false false (omega arith)) ∙ ap (λ (m : List Bool). marked m p) (sym is) ∙ mark in
          absurd (let some = opens_some marks start uip p h lt was in omega arith)
    ];
    levels = λ p le lt e. absurd (omega arith);
    decision = decision;
    early = from;
  },
)

-- a list that isn't empty has a first element
some_length : (xs : List Literal) → (length xs ≡ 0 → ⊥) → (k : Literal) × (slice_get xs 0 ≡ Some k)
some_length [] h = absurd (h refl)
some_length (x ∷ xs) h = (x, refl)

later_member : (l : Literal) (xs : List Literal) (k : Literal) → Contains xs k → Contains (l ∷ xs) k
later_member l xs k h = (suc h.0, omega (arith, h.1), h.2)

-- a member of a list is its head or one of the others, of which something holds
head_or_other : (l : Literal) (xs : List Literal) (m : Literal) (P : Literal → Type 0) → Contains (l ∷ xs) m → All P xs → (m ≡ l) ⊎ P m
head_or_other l xs m P h all = at h.0 h.1 h.2 where
  at : (k : ℕ) → k < suc (length xs) → get_or (l ∷ xs) k m ≡ m → (m ≡ l) ⊎ P m
  at zero lt e = inl (sym e)
  at (suc k) lt e = inr (All-contains P xs m all (k, omega arith, e))

-- one place on, before it is asked whether a level begins there
record IsBetween (lits : List Literal) (reasons : List Reason) (l : Literal) (p : ℕ) (marks : List Bool) (kept : List Literal) (cut : ℕ) : Type 0 where
  others : List Literal
  kept_is : kept ≡ l ∷ others
  lower : All (IsFalse (take cut lits)) others
  below : (q : ℕ) → q < p → marked marks q ≡ true → q < cut
  levels : (q : ℕ) → suc p ≤ q → q < cut → slice_get reasons q ≡ Some Decision → (k : Literal) × (slice_get others 0 ≡ Some k) × (r : ℕ) × (q ≤ r) × (slice_get lits r ≡ Some (negation k))

between : (lits : List Literal) (reasons : List Reason) (l : Literal) (uip p : ℕ) (marks marks' : List Bool) (kept kept' : List Literal) (cut : ℕ) → IsAsserting lits reasons l uip (suc p) marks kept cut → Settles lits p marks marks' kept kept' → IsBetween lits reasons l p marks' kept' cut
between lits reasons l uip p marks marks' kept kept' cut a s =
    let below : (q : ℕ) → q < p → marked marks' q ≡ true → q < cut = λ q lt mark. elim (s.marks q lt mark) [
      | inl old ↦ a.below q (omega arith) old
      | inr here ↦ (let h = a.below p (omega arith) here in omega arith)
    ] in
    elim s.kept [
      | inl same ↦ record { others = a.others; kept_is = same ∙ a.kept_is; lower = a.lower; below = below; levels = λ q le lt e. a.levels q le lt e }
      | inr more ↦
          let x = more.1.0 in
          let at = more.1.1 in
          let lower : Contains (take cut lits) (negation (negation x)) = subst (Contains (take cut lits)) (sym (negation_twice x)) (member_taken cut lits p x (a.below p (omega arith) more.0) at) in
          record {
            others = a.others ++ negation x ∷ [];
            kept_is = more.1.2 ∙ ap (λ (ls : List Literal). ls ++ negation x ∷ []) a.kept_is;
            lower = All-push (IsFalse (take cut lits)) a.others (negation x) a.lower lower;
            below = below;
            levels = λ q le lt e. let old = a.levels q le lt e in (old.0, push_old a.others (negation x ∷ []) 0 old.0 old.1, old.2, old.3, old.4);
          }
    ]

-- a level begins there, and nothing of it or below has been kept: the cut moves there
pub asserts_cut : (lits : List Literal) (reasons : List Reason) (uip p : ℕ) (marks marks' : List Bool) (kept kept' : List Literal) (cut : ℕ) → Asserts lits reasons uip (suc p) marks kept cut → Settles lits p marks marks' kept kept' → p < uip → (length kept' ≡ 1) × (slice_get reasons p ≡ Some Decision)
    → Asserts lits reasons uip p marks' kept' p
asserts_cut lits reasons uip p marks marks' kept kept' cut a s lt begins =
    let l = negation a.0 in
    let b = between lits reasons l uip p marks marks' kept kept' cut a.2 s in
    let len = ap (λ (xs : List Literal). length xs) b.kept_is in
    let none : length b.others ≡ 0 = let one = begins.0 in omega (arith, len) in (
      a.0,
      a.1,
      record {
        others = b.others;
        kept_is = b.kept_is;
        lower = λ k d h. absurd (omega arith);
        below = λ q h mark. h;
        levels = λ q le h e. absurd (omega arith);
        decision = begins.1;
        early = omega arith;
      },
    )

-- otherwise it stays
pub asserts_stay : (lits : List Literal) (reasons : List Reason) (uip p : ℕ) (marks marks' : List Bool) (kept kept' : List Literal) (cut : ℕ) → Asserts lits reasons uip (suc p) marks kept cut → Settles lits p marks marks' kept kept' → ¬ ((length kept' ≡ 1) × (slice_get reasons p ≡ Some Decision)) → ((k : Literal) → Contains kept' k → (q : ℕ) × (p ≤ q) × (slice_get lits q ≡ Some (negation k)))
    → Asserts lits reasons uip p marks' kept' cut
asserts_stay lits reasons uip p marks marks' kept kept' cut a s no_level above =
    let l = negation a.0 in
    let b = between lits reasons l uip p marks marks' kept kept' cut a.2 s in
    let len = ap (λ (xs : List Literal). length xs) b.kept_is in (
      a.0,
      a.1,
      record {
        others = b.others;
        kept_is = b.kept_is;
        lower = b.lower;
        below = b.below;
        levels = λ q le lt e. elim (cases_eq q p) [
          | inl is ↦
              let here : slice_get reasons p ≡ Some Decision = ap (λ n. slice_get reasons n) (sym is) ∙ e in
              let first = some_length b.others (λ none. no_level ((let n = none in omega (arith, len)), here)) in
              let k = first.0 in
              let at = above k (subst (λ (ls : List Literal). Contains ls k) (sym b.kept_is) (later_member l b.others k (place_member b.others 0 k first.1))) in
              (k, first.1, at.0, (let le = at.1 in omega arith), at.2)
          | inr ne ↦ b.levels q (omega arith) lt e
        ];
        decision = a.2.decision;
        early = a.2.early;
      },
    )

-- a literal isn't false where its variable's literal stands at a later place
not_false_below : (lits : List Literal) (n place : ℕ) (x l : Literal) → AreApart lits → slice_get lits place ≡ Some x → l.var ≡ x.var → n ≤ place → ¬ Contains (take n lits) l
not_false_below lits n place x l apart at same le h =
    let q = taken_member n lits l h in
    let e : q.0 ≡ place = apart q.0 place l x q.2 at same in
    let lt = q.1 in
    absurd (omega arith)

-- below the cut the learned clause is unit
pub asserted_unit : (known : List (List Literal)) (a : Assignment) (uip cut : ℕ) (marks : List Bool) (kept clause : List Literal) (l : Literal) → IsSound known a → Asserts a.lits a.reasons uip 0 marks kept cut → ((m : Literal) → Contains clause m → Contains kept m) → ((m : Literal) → Contains kept m → Contains clause m) → slice_get kept 0 ≡ Some l → IsUnit (take cut a.lits) clause l
asserted_unit known a uip cut marks kept clause l sound asserts few many first =
    let x = asserts.0 in
    let b = asserts.2 in
    let is : negation x ≡ l = same_place kept 0 (negation x) l (ap (λ (ls : List Literal). slice_get ls 0) b.kept_is) first in
    let none : (m : Literal) → m.var ≡ x.var → ¬ Contains (take cut a.lits) m = λ m e. not_false_below a.lits cut uip x m sound.apart asserts.1 e b.early in
    let P : Literal → Type 0 = λ y. IsUnit (take cut a.lits) clause y in
    subst P is (record {
      member = many (negation x) (place_member kept 0 (negation x) (ap (λ (ls : List Literal). slice_get ls 0) b.kept_is));
      no_value = (none (negation x) refl, none (negation (negation x)) refl);
      others = λ k d h.
          let m = get_or clause k d in
          let in_kept = few m (Contains-get_or clause k d h) in
          head_or_other (negation x) b.others m (IsFalse (take cut a.lits)) (subst (λ (ls : List Literal). Contains ls m) b.kept_is in_kept) b.lower;
    })

-- and false last was the second of the kept literals
pub asserted_second : (a : Assignment) (uip cut : ℕ) (marks : List Bool) (kept clause : List Literal) (second : Option Literal) → AreApart a.lits → Asserts a.lits a.reasons uip 0 marks kept cut → ((m : Literal) → Contains kept m → Contains clause m) → slice_get kept 1 ≡ second → IsSecond a cut clause second
asserted_second a uip cut marks kept clause None apart asserts many is =
    let b = asserts.2 in
    λ d lt e.
    let level = b.levels d (omega arith) lt e in
    let clash : None ≡ Some level.0 = sym is ∙ ap (λ (ls : List Literal). slice_get ls 1) b.kept_is ∙ level.1 in
    absurd (cc)
asserted_second a uip cut marks kept clause (Some k) apart asserts many is =
    let b = asserts.2 in
    let first : slice_get b.others 0 ≡ Some k = ap (λ (ls : List Literal). slice_get ls 1) (sym b.kept_is) ∙ is in
    let lower : IsFalse (take cut a.lits) k = All-contains (IsFalse (take cut a.lits)) b.others k b.lower (place_member b.others 0 k first) in
    let at = taken_member cut a.lits (negation k) lower in (
      many k (place_member kept 1 k is),
      at.0,
      at.1,
      at.2,
      λ d after lt e.
          let level = b.levels d (omega arith) lt e in
          let same : level.0 ≡ k = same_place b.others 0 level.0 k level.1 first in
          let place : level.2 ≡ at.0 = apart level.2 at.0 (negation level.0) (negation k) level.4 at.2 (ap (λ (m : Literal). m.var) same) in
          let le = level.3 in
          absurd (omega arith),
    )

-- the settled set that the learned clause is fresh by
pub asserted_fresh : (known : List (List Literal)) (a : Assignment) (uip cut : ℕ) (marks : List Bool) (kept clause : List Literal) (l : Literal) → IsSound known a → Asserts a.lits a.reasons uip 0 marks kept cut → IsUnit (take cut a.lits) clause l → IsFresh known clause
asserted_fresh known a uip cut marks kept clause l sound asserts unit =
    let b = asserts.2 in
    let begins = slice_get_within a.reasons cut Decision b.decision in
    let same = sound.same in
    let first = element_at a.lits cut (omega arith) in
    let settled : IsSettled known (take cut a.lits) = sound.explained cut first.0 Decision first.1 b.decision in
    (l, (take cut a.lits, settled, unit))

-- and what stands below stays settled once the clause is known
still_settled : (known : List (List Literal)) (a : Assignment) (uip cut p : ℕ) (marks : List Bool) (kept clause : List Literal) → IsSound known a → Asserts a.lits a.reasons uip 0 marks kept cut → ((l : Literal) → Contains kept l → Contains clause l) → p < cut → slice_get a.reasons p ≡ Some Decision → IsSettled known (take p a.lits) → IsSettled (known ++ clause ∷ []) (take p a.lits)
still_settled known a uip cut p marks kept clause sound asserts many lt decision settled =
    let x = asserts.0 in
    let l = negation x in
    let b = asserts.2 in
    let early = b.early in
    let set = take p a.lits in
    let head : Contains kept l = subst (λ (ls : List Literal). Contains ls l) (sym b.kept_is) (0, omega arith, refl) in
    let l_open : ¬ IsFalse set l = not_false_below a.lits p uip x (negation l) sound.apart asserts.1 refl (omega arith) in
    let level = b.levels p (omega arith) lt decision in
    let k = level.0 in
    let k_member = place_member b.others 0 k level.1 in
    let k_there : Contains kept k = subst (λ (ls : List Literal). Contains ls k) (sym b.kept_is) (later_member l b.others k k_member) in
    let k_open : ¬ IsFalse set k = not_false_below a.lits p level.2 (negation k) (negation k) sound.apart level.4 refl level.3 in
    let k_lower : IsFalse (take cut a.lits) k = All-contains (IsFalse (take cut a.lits)) b.others k b.lower k_member in
    record {
      consistent = settled.consistent;
      no_conflict = All-push (λ c. ¬ IsFalsified set c) known clause settled.no_conflict (λ f. l_open (All-contains (IsFalse set) clause l f (many l head)));
      no_unit = All-push (λ c. (y : Literal) → ¬ IsUnit set c y) known clause settled.no_unit (λ y unit.
          let P : Literal → Type 0 = λ m. (m ≡ y) ⊎ IsFalse set m in
          let l_is : l ≡ y = elim (All-contains P clause l unit.others (many l head)) [ inl is ↦ is | inr f ↦ absurd (l_open f) ] in
          let k_is : k ≡ y = elim (All-contains P clause k unit.others (many k k_there)) [ inl is ↦ is | inr f ↦ absurd (k_open f) ] in
          let same : k.var ≡ x.var = ap (λ (m : Literal). m.var) (k_is ∙ sym l_is) in
          not_false_below a.lits cut uip x (negation k) sound.apart asserts.1 same early k_lower);
    }

-- the trail that is gone back to
pub asserted_sound : (known : List (List Literal)) (a : Assignment) (uip cut : ℕ) (marks : List Bool) (kept clause : List Literal) → IsSound known a → Asserts a.lits a.reasons uip 0 marks kept cut → ((l : Literal) → Contains kept l → Contains clause l) → (cut ≤ length a.lits) × IsSound (known ++ clause ∷ []) (cut_to cut a)
asserted_sound known a uip cut marks kept clause sound asserts many =
    let early = asserts.2.early in
    let there = slice_get_within a.lits uip asserts.0 asserts.1 in
    let within : cut ≤ length a.lits = omega arith in
    let old = sound_cut known a cut sound within in (
      within,
      record {
        same = old.same;
        apart = old.apart;
        within = old.within;
        explained = λ p m r em er.
            let t = taken_place cut a.lits p m em in
            let u = taken_place cut a.reasons p r er in
            let front : take p (take cut a.lits) ≡ take p a.lits = take-take p cut a.lits (let lt = t.0 in omega arith) in
            let P : List Literal → Type 0 = λ before. IsExplained (known ++ clause ∷ []) before m r in
            subst P (sym front) (explained_still (take p a.lits) m r (sound.explained p m r t.1 u.1) (λ s is. still_settled known a uip cut p marks kept clause sound asserts many t.0 (u.1 ∙ ap Some is) s));
      },
    )
  where
    explained_still : (before : List Literal) (m : Literal) (r : Reason) → IsExplained known before m r → (IsSettled known before → r ≡ Decision → IsSettled (known ++ clause ∷ []) before) → IsExplained (known ++ clause ∷ []) before m r
    explained_still before m Decision e f = f e refl
    explained_still before m (Implied k) e f = (e.0, (e.1.0, get_left known (clause ∷ []) (k - 1) e.0 e.1.1), e.2)
