-- The clauses of a formula, one after the other, before anything is decided.
use Rattle.std.proofs.Common.{◌≡◌, ◌≢◌, ℕ, ◌+◌, ◌<◌, ◌≤◌, inl, inr, List, [], ◌∷◌, ◌++◌, length, take, get_or, slice_get, Some, zero, suc, arith, refl, sym, ap, ◌∙◌, subst}
use Rattle.std.specs.Prelude.{Contains}
use Rattle.std.proofs.lemmas.List.{take_more}
use Rattle.std.proofs.lemmas.Option.{slice_get_within, get_or_from_slice_get, slice_get-get_or}
use Rattle.eq_proof.specs.Literal.{Literal}
use Rattle.eq_proof.specs.Clause.{IsClause}
use Rattle.eq_proof.specs.Sets.{IsFalse, HasNoValue, IsUnit}
use Rattle.eq_proof.proofs.Judging.{differs}
use Rattle.eq_cdcl.specs.inner.Assignment.{Assignment, extended}
use Rattle.eq_cdcl.specs.inner.Slots.{IsProper}
use Rattle.eq_cdcl.specs.inner.Sound.{IsSound}
use Rattle.eq_cdcl.specs.inner.Found.{IsConflict}
use Rattle.eq_cdcl.specs.inner.Asserting.{HasNoDecision}
use Rattle.eq_cdcl.specs.inner.Watched.{IsWatched, IsAttached, Watching}
use Rattle.eq_cdcl.specs.declared.trail.Reason.TheVariants.{Decision, Implied}
use Rattle.eq_cdcl.specs.declared.watches.Pair.{Pair}
use Rattle.eq_cdcl.specs.declared.watches.Watch.{Watch}
use Rattle.eq_cdcl.specs.declared.watches.Watches.{Watches}
use Rattle.eq_cdcl.proofs.Places.{member_place, member_taken, push_cases, number_at}
use Rattle.eq_cdcl.proofs.Sounds.{sound_extended}
use Rattle.eq_cdcl.proofs.Staying.{watched_extended}
use Rattle.eq_cdcl.proofs.Attaching.{watched_root, watched_attached}

-- one element more of a front
pub take_next : {X : Type 0} (xs : List X) (n : ℕ) (x : X) → slice_get xs n ≡ Some x → take n xs ++ x ∷ [] ≡ take (n + 1) xs
take_next xs n x e = ap (λ y. take n xs ++ y ∷ []) (sym (get_or_from_slice_get xs n x x e)) ∙ sym (take_more xs n x (slice_get_within xs n x e))

-- a clause of one literal that is true
pub start_true : (known : List (List Literal)) (a : Assignment) (head place : ℕ) (pairs pairs' : List Pair) (lists : List (List Watch)) (l : Literal) → IsWatched (take place known) a head pairs lists → slice_get known place ≡ Some (l ∷ []) → HasNoDecision a.reasons → Contains a.lits l → IsProper l → pairs' ≡ pairs ++ (record { first = l; second = l }) ∷ []
    → IsWatched (take (place + 1) known) a head pairs' lists
start_true known a head place pairs pairs' lists l w at root holds proper pushed =
    let p = member_place a.lits l holds in
    let member : Contains (l ∷ []) l = (0, omega arith, refl) in
    let all = watched_root (take place known) a head pairs lists (l ∷ []) l w member proper (record {
      literal = l;
      member = member;
      proper = proper;
      place = p.0;
      there = p.1;
      level = λ d from to e. root d e;
    }) in
    let P : List (List Literal) → Type 0 = λ ks. IsWatched ks a head pairs' lists in
    let Q : List Pair → Type 0 = λ ps. IsWatched (take place known ++ (l ∷ []) ∷ []) a head ps lists in
    subst P (take_next known place (l ∷ []) at) (subst Q (sym pushed) all)

-- one that makes its literal true
pub start_assigned : (known few : List (List Literal)) (a : Assignment) (head place : ℕ) (pairs : List Pair) (lists : List (List Watch)) (l : Literal) → IsSound known a → IsWatched few a head pairs lists → slice_get known place ≡ Some (l ∷ []) → HasNoDecision a.reasons → HasNoValue a.lits l → l.var < a.size
    → IsSound known (extended a l (Implied (place + 1))) × HasNoDecision (extended a l (Implied (place + 1))).reasons × IsWatched few (extended a l (Implied (place + 1))) head pairs lists
start_assigned known few a head place pairs lists l sound w at root none below =
    let reason = Implied (place + 1) in
    let unit : IsUnit a.lits (l ∷ []) l = record {
      member = (0, omega arith, refl);
      no_value = none;
      others = λ k d h. inl (first k d h);
    } in (
      sound_extended known a l reason sound below none (l ∷ [], number_at known place (l ∷ []) at, unit),
      λ d e. elim (push_cases a.reasons reason d Decision e) [
        | inl old ↦ root d old
        | inr last ↦ (let is = last.1 in absurd (cc))
      ],
      watched_extended few a l reason head pairs lists sound.same (λ is. absurd (cc)) w,
    )
  where
    first : (k : ℕ) (d : Literal) → k < 1 → get_or (l ∷ []) k d ≡ l
    first zero d h = refl
    first (suc k) d h = absurd (omega arith)

-- one that is false
pub start_false : (known : List (List Literal)) (lits : List Literal) (place : ℕ) (l : Literal) → slice_get known place ≡ Some (l ∷ []) → IsFalse lits l → IsConflict known lits (place + 1)
start_false known lits place l at f = (l ∷ [], number_at known place (l ∷ []) at, falsified) where
  falsified : (k : ℕ) (d : Literal) → k < 1 → IsFalse lits (get_or (l ∷ []) k d)
  falsified zero d h = f
  falsified (suc k) d h = absurd (omega arith)

-- a clause of two or more
pub start_two : (known : List (List Literal)) (a : Assignment) (place : ℕ) (pairs pairs' : List Pair) (lists lists' : List (List Watch)) (clause : List Literal) (x y : Literal) → IsWatched (take place known) a 0 pairs lists → IsAttached pairs lists pairs' lists' x y → slice_get known place ≡ Some clause → Contains clause x → Contains clause y → x ≢ y
    → IsWatched (take (place + 1) known) a 0 pairs' lists'
start_two known a place pairs pairs' lists lists' clause x y w t at first second different =
    let P : List (List Literal) → Type 0 = λ ks. IsWatched ks a 0 pairs' lists' in
    subst P (take_next known place clause at) (watched_attached (take place known) a 0 pairs pairs' lists lists' clause x y w t first second different (λ p lt e. absurd (omega arith)) (λ p lt e. absurd (omega arith)))

-- the same of the program's watches
pub unit_true : (known : List (List Literal)) (a : Assignment) (place : ℕ) (w w' : Watches) (l : Literal) → Watching (take place known) a w → slice_get known place ≡ Some (l ∷ []) → HasNoDecision a.reasons → Contains a.lits l → IsProper l → w'.pairs.items ≡ w.pairs.items ++ (record { first = l; second = l }) ∷ [] → w'.lists ≡ w.lists → w'.head ≡ w.head
    → Watching (take (place + 1) known) a w'
unit_true known a place w w' l watching at root holds proper pushed same head =
    let one = start_true known a w.head place w.pairs.items w'.pairs.items w.lists.items l watching at root holds proper pushed in
    let lists_are : w.lists.items ≡ w'.lists.items = ap (λ x. x.items) (sym same) in
    let P : ℕ → Type 0 = λ n. IsWatched (take (place + 1) known) a n w'.pairs.items w'.lists.items in
    let Q : List (List Watch) → Type 0 = λ ls. IsWatched (take (place + 1) known) a w.head w'.pairs.items ls in
    subst P (sym head) (subst Q lists_are one)

pub two_watched : (known : List (List Literal)) (a : Assignment) (place : ℕ) (w w' : Watches) (clause : List Literal) (x y : Literal) → Watching (take place known) a w → w.head ≡ 0 → IsAttached w.pairs.items w.lists.items w'.pairs.items w'.lists.items x y → slice_get known place ≡ Some clause → IsClause clause → 2 ≤ length clause → x ≡ get_or clause 0 x → y ≡ get_or clause 1 y → w'.head ≡ w.head
    → Watching (take (place + 1) known) a w'
two_watched known a place w w' clause x y watching zero_head t at ordered two first second head =
    let P : ℕ → Type 0 = λ n. IsWatched (take place known) a n w.pairs.items w.lists.items in
    let Q : ℕ → Type 0 = λ n. IsWatched (take (place + 1) known) a n w'.pairs.items w'.lists.items in
    let x_member : Contains clause x = (0, omega arith, sym first) in
    let y_member : Contains clause y = (1, omega arith, sym second) in
    let in_front : Contains (take 1 clause) x = member_taken 1 clause 0 x (omega arith) (slice_get-get_or clause 0 x (omega arith) ∙ ap Some (sym first)) in
    let different : x ≢ y = differs clause 1 x y ordered in_front (omega arith) second in
    subst Q (sym (head ∙ zero_head)) (start_two known a place w.pairs.items w'.pairs.items w.lists.items w'.lists.items clause x y (subst P zero_head watching) t at x_member y_member different)
