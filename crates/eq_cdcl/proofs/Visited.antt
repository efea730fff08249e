-- The entries of a literal's list, one after the other.
use Rattle.std.proofs.Common.{◌≡◌, ℕ, ◌+◌, ◌*◌, ◌<◌, ◌≤◌, suc, inl, inr, Bool, true, false, cond, List, [], ◌∷◌, length, slice_get, Some, arith, refl, sym, ap, ◌∙◌, subst}
use Rattle.std.specs.Prelude.{All, Contains}
use Rattle.std.proofs.lemmas.Bool.{cases_eq, cases_lt}
use Rattle.std.proofs.lemmas.List.Elements.{All-contains, Contains-push}
use Rattle.std.proofs.lemmas.Option.{slice_get_within}
use Rattle.eq_proof.specs.Literal.{Literal, negation, code_of}
use Rattle.eq_proof.specs.Assigned.{AllBelow}
use Rattle.eq_proof.specs.Sets.{IsFalse, HasNoValue, IsFalsified, IsUnit}
use Rattle.eq_proof.proofs.Lists.{All-at}
use Rattle.eq_proof.proofs.Negations.{negation_twice}
use Rattle.eq_cdcl.specs.inner.Assignment.{Assignment, extended}
use Rattle.eq_cdcl.specs.inner.Slots.{IsProper}
use Rattle.eq_cdcl.specs.inner.Sound.{IsSound}
use Rattle.eq_cdcl.specs.inner.Found.{IsConflict}
use Rattle.eq_cdcl.specs.inner.Watched.{StaysTrue, list_of, IsListed, IsQuietFor, IsMinded, IsWatched, HasLiteral, IsOther, IsAtEntry}
use Rattle.eq_cdcl.specs.inner.Visiting.{IsSeen, IsVisiting, Visiting, Visits, AreFalseBut, Implies}
use Rattle.eq_cdcl.specs.declared.trail.Reason.TheVariants.{Implied}
use Rattle.eq_cdcl.specs.declared.watches.Pair.{Pair}
use Rattle.eq_cdcl.specs.declared.watches.Watch.{Watch}
use Rattle.eq_cdcl.specs.declared.watches.Watches.{Watches}
use Rattle.eq_cdcl.specs.declared.visiting.Visited.{Visited}
use Rattle.eq_cdcl.specs.declared.visiting.Visited.TheVariants.{Kept, Moved, Conflict}
use Rattle.eq_cdcl.proofs.Places.{member_place, place_member, push_old, same_place, number_at, element_at}
use Rattle.eq_cdcl.proofs.Sounds.{sound_extended}
use Rattle.eq_cdcl.proofs.Staying.{stays_extended, watched_extended}

number_below : (x n : ℕ) (p : Bool) → x < n → 2 * x + cond {A = ℕ} p 0 1 < 2 * n
number_below x n true h = omega arith
number_below x n false h = omega arith

-- each literal has a list
pub list_within : (known : List (List Literal)) (a : Assignment) (head : ℕ) (pairs : List Pair) (lists : List (List Watch)) (l : Literal) → IsWatched known a head pairs lists → l.var < a.size → code_of l < length lists
list_within known a head pairs lists l w h =
    let room = w.room in
    let below = number_below l.var a.size l.positive h in
    omega arith

-- the literal that is visited is of a variable of the trail
pub visiting_below : (known : List (List Literal)) (a : Assignment) (head : ℕ) (pairs : List Pair) (lists : List (List Watch)) (f : Literal) (i : ℕ) → IsVisiting known a head pairs lists f i → f.var < a.size
visiting_below known a head pairs lists f i v = All-contains (λ (m : Literal). m.var < a.size) a.lits (negation f) v.sound.within (place_member a.lits head (negation f) v.here)

-- no entry has been seen yet
pub visiting_start : (known : List (List Literal)) (a : Assignment) (head : ℕ) (pairs : List Pair) (lists : List (List Watch)) (f : Literal) → IsSound known a → IsWatched known a head pairs lists → slice_get a.lits head ≡ Some (negation f) → IsVisiting known a head pairs lists f 0
visiting_start known a head pairs lists f sound watched here = record {
  sound = sound;
  watched = watched;
  here = here;
  seen = λ j w lt at. absurd (omega arith);
}

-- one entry more has been seen
pub visiting_seen : (known : List (List Literal)) (a : Assignment) (head : ℕ) (pairs : List Pair) (lists : List (List Watch)) (f : Literal) (i : ℕ) (w : Watch) → IsVisiting known a head pairs lists f i → slice_get (list_of lists f) i ≡ Some w → IsSeen known a head pairs f w.clause → IsVisiting known a head pairs lists f (i + 1)
visiting_seen known a head pairs lists f i w v at seen = record {
  sound = v.sound;
  watched = v.watched;
  here = v.here;
  seen = λ j x lt here. elim (cases_eq j i) [
    | inl is ↦
        let same : w ≡ x = same_place (list_of lists f) i w x at (ap (λ n. slice_get (list_of lists f) n) (sym is) ∙ here) in
        let P : Watch → Type 0 = λ y. IsSeen known a head pairs f y.clause in
        subst P same seen
    | inr ne ↦ v.seen j x (omega arith) here
  ];
}

-- a true literal stays as long as that at the head, since no decision stands behind the head
pub true_stays : (known : List (List Literal)) (a : Assignment) (head : ℕ) (pairs : List Pair) (lists : List (List Watch)) (clause : List Literal) (l : Literal) → IsWatched known a head pairs lists → Contains clause l → IsProper l → Contains a.lits l → StaysTrue a (suc head) clause
true_stays known a head pairs lists clause l w member proper holds =
    let at = member_place a.lits l holds in
    record {
      literal = l;
      member = member;
      proper = proper;
      place = at.0;
      there = at.1;
      level = λ d from to e. w.last_level d (omega arith) e;
    }

-- a true blocker
pub seen_blocked : (known : List (List Literal)) (a : Assignment) (head : ℕ) (pairs : List Pair) (lists : List (List Watch)) (f : Literal) (i : ℕ) (w : Watch) → IsWatched known a head pairs lists → slice_get (list_of lists f) i ≡ Some w → IsProper w.blocker → Contains a.lits w.blocker → IsSeen known a head pairs f w.clause
seen_blocked known a head pairs lists f i w watched at proper holds clause pair ek ep has =
    let e = watched.entries (code_of f) w (place_member (list_of lists f) i w at) in
    let P : List Literal → Type 0 = λ c. Contains c w.blocker in
    true_stays known a head pairs lists clause w.blocker watched (subst P (same_place known w.clause e.0 clause e.1 ek) e.2) proper holds

-- a clause that doesn't watch the literal any more
pub seen_stale : (known : List (List Literal)) (a : Assignment) (head : ℕ) (pairs : List Pair) (f : Literal) (n : ℕ) (pair : Pair) → slice_get pairs n ≡ Some pair → ¬ HasLiteral pair f → IsSeen known a head pairs f n
seen_stale known a head pairs f n pair at none clause other ek ep has =
    let P : Pair → Type 0 = λ p. HasLiteral p f in
    absurd (none (subst P (same_place pairs n other pair ep at) has))

-- the other literal is one of the clause's
pub other_member : (a : Assignment) (head : ℕ) (lists : List (List Watch)) (n : ℕ) (clause : List Literal) (pair : Pair) (f other : Literal) → IsMinded a head lists n clause pair → IsOther pair f other → Contains clause other
other_member a head lists n clause pair f other m (inl h) = subst (Contains clause) h.1 m.second
other_member a head lists n clause pair f other m (inr h) = subst (Contains clause) h.1 m.first

-- the other literal is true
pub seen_true : (known : List (List Literal)) (a : Assignment) (head : ℕ) (pairs : List Pair) (lists : List (List Watch)) (f other : Literal) (n : ℕ) (pair : Pair) → IsWatched known a head pairs lists → slice_get pairs n ≡ Some pair → IsOther pair f other → IsProper other → Contains a.lits other → IsSeen known a head pairs f n
seen_true known a head pairs lists f other n pair watched at which proper holds clause pair' ek ep has =
    true_stays known a head pairs lists clause other watched (other_member a head lists n clause pair f other (watched.minded n clause pair ek at) which) proper holds

-- all other literals are false, and this one too
pub all_false : (set clause : List Literal) (other : Literal) → AreFalseBut set clause other → IsFalse set other → IsFalsified set clause
all_false set clause other but f = λ k d h. elim (but k d h) [
  | inl is ↦ subst (IsFalse set) (sym is) f
  | inr g ↦ g
]

-- the other literal became true by the clause
pub visiting_implied : (known : List (List Literal)) (a : Assignment) (head : ℕ) (pairs : List Pair) (lists : List (List Watch)) (f other : Literal) (i n : ℕ) (clause : List Literal) → IsVisiting known a head pairs lists f i → IsAtEntry pairs lists f i n other → slice_get known n ≡ Some clause → AreFalseBut a.lits clause other → HasNoValue a.lits other → other.var < a.size → IsProper other
    → IsVisiting known (extended a other (Implied (n + 1))) head pairs lists f (i + 1)
visiting_implied known a head pairs lists f other i n clause v e ek but none below proper =
    let reason = Implied (n + 1) in
    let new = extended a other reason in
    let same = v.sound.same in
    let member = other_member a head lists n clause e.pair f other (v.watched.minded n clause e.pair ek e.paired) e.which in
    let unit : IsUnit a.lits clause other = record { member = member; no_value = none; others = but } in
    let watched : IsWatched known new head pairs lists = watched_extended known a other reason head pairs lists same (λ is. absurd (cc)) v.watched in
    let all : IsVisiting known new head pairs lists f i = record {
      sound = sound_extended known a other reason v.sound below none (clause, number_at known n clause ek, unit);
      watched = watched;
      here = push_old a.lits (other ∷ []) head (negation f) v.here;
      seen = λ j w lt at c p ec ep has. stays_extended a other reason (suc head) c same (v.seen j w lt at c p ec ep has);
    } in
    let seen : IsSeen known new head pairs f n = seen_true known new head pairs lists f other n e.pair watched e.paired e.which proper (Contains-push a.lits other) in
    let P : ℕ → Type 0 = λ k. IsSeen known new head pairs f k in
    visiting_seen known new head pairs lists f i e.watch all e.at (subst P (sym e.names) seen)

-- the other literal is true
pub visiting_true : (known : List (List Literal)) (a : Assignment) (w : Watches) (f other : Literal) (i n : ℕ) → Visiting known a w f i → IsAtEntry w.pairs.items w.lists.items f i n other → IsProper other → Contains a.lits other → Visiting known a w f (i + 1)
visiting_true known a w f other i n v e proper holds =
    let P : ℕ → Type 0 = λ k. IsSeen known a w.head w.pairs.items f k in
    let seen = seen_true known a w.head w.pairs.items w.lists.items f other n e.pair v.watched e.paired e.which proper holds in
    visiting_seen known a w.head w.pairs.items w.lists.items f i e.watch v e.at (subst P (sym e.names) seen)

-- the clause is falsified
pub visiting_conflict : (known : List (List Literal)) (a : Assignment) (other : Literal) (n : ℕ) (clause : List Literal) → slice_get known n ≡ Some clause → AreFalseBut a.lits clause other → IsFalse a.lits other → IsConflict known a.lits (n + 1)
visiting_conflict known a other n clause ek but f = (clause, number_at known n clause ek, all_false a.lits clause other but f)

-- the list of the literal has been gone over
quiet_next : (known : List (List Literal)) (a : Assignment) (head : ℕ) (pairs : List Pair) (lists : List (List Watch)) (f k : Literal) (i n : ℕ) (clause : List Literal) (pair : Pair) → IsVisiting known a head pairs lists f i → length (list_of lists f) ≤ i → slice_get known n ≡ Some clause → slice_get pairs n ≡ Some pair → HasLiteral pair k → IsListed lists n k
    → IsQuietFor a head clause k → IsQuietFor a (head + 1) clause k
quiet_next known a head pairs lists f k i n clause pair v end ek ep has listed quiet p lt at =
    elim (cases_lt p head) [
      | inl old ↦ quiet p old at
      | inr ge ↦
          let is : p ≡ head = omega arith in
          let here : negation f ≡ negation k = same_place a.lits head (negation f) (negation k) v.here (ap (λ q. slice_get a.lits q) (sym is) ∙ at) in
          let same : k ≡ f = sym (negation_twice k) ∙ ap negation (sym here) ∙ negation_twice f in
          let P : Literal → Type 0 = λ x. IsListed lists n x in
          let l = subst P same listed in
          let place = member_place (list_of lists f) l.0 l.1 in
          let below = slice_get_within (list_of lists f) place.0 l.0 place.1 in
          let seen = v.seen place.0 l.0 (omega arith) place.1 in
          let Q : ℕ → Type 0 = λ m. IsSeen known a head pairs f m in
          let R : Literal → Type 0 = λ x. HasLiteral pair x in
          let S : ℕ → Type 0 = λ q. StaysTrue a (suc q) clause in
          subst S (sym is) ((subst Q l.2 seen) clause pair ek ep (subst R same has))
    ]

pub visiting_end : (known : List (List Literal)) (a : Assignment) (head : ℕ) (pairs : List Pair) (lists : List (List Watch)) (f : Literal) (i : ℕ) → IsVisiting known a head pairs lists f i → length (list_of lists f) ≤ i → IsWatched known a (head + 1) pairs lists
visiting_end known a head pairs lists f i v end = record {
  count = v.watched.count;
  room = v.watched.room;
  entries = v.watched.entries;
  minded = λ n clause pair ek ep.
      let m = v.watched.minded n clause pair ek ep in
      record {
        first = m.first;
        second = m.second;
        first_proper = m.first_proper;
        second_proper = m.second_proper;
        watched = elim m.watched [
          | inl s ↦ inl s
          | inr o ↦ inr (record {
            different = o.different;
            first_listed = o.first_listed;
            second_listed = o.second_listed;
            first_quiet = quiet_next known a head pairs lists f pair.first i n clause pair v end ek ep (inl refl) o.first_listed o.first_quiet;
            second_quiet = quiet_next known a head pairs lists f pair.second i n clause pair v end ek ep (inr refl) o.second_listed o.second_quiet;
          })
        ];
      };
  within = let here = slice_get_within a.lits head (negation f) v.here in omega arith;
  last_level = λ d lt e. v.watched.last_level d (omega arith) e;
}

-- an entry's clause
pub entry_clause : (known : List (List Literal)) (a : Assignment) (head : ℕ) (pairs : List Pair) (lists : List (List Watch)) (f other : Literal) (i n : ℕ) → IsWatched known a head pairs lists → IsAtEntry pairs lists f i n other → (clause : List Literal) × (slice_get known n ≡ Some clause) × Contains clause other
entry_clause known a head pairs lists f other i n w e =
    let below = slice_get_within pairs n e.pair e.paired in
    let count = w.count in
    let at = element_at known n (omega arith) in
    (at.0, at.1, other_member a head lists n at.0 e.pair f other (w.minded n at.0 e.pair at.1 e.paired) e.which)

-- the other literal became true, or was, or the clause is falsified
pub implied_visits : (known : List (List Literal)) (a new : Assignment) (w : Watches) (f other : Literal) (i n : ℕ) (clause : List Literal) (visited : Visited) → Visiting known a w f i → IsAtEntry w.pairs.items w.lists.items f i n other → slice_get known n ≡ Some clause → AreFalseBut a.lits clause other → other.var < a.size → Implies a new other n visited
    → Visits known new w w f i visited
implied_visits known a new w f other i n clause Kept v e ek but below (proper, inl h) =
    let P : Assignment → Type 0 = λ b. Visits known b w w f i Kept in
    subst P (sym h.1) (visiting_implied known a w.head w.pairs.items w.lists.items f other i n clause v e ek but h.0 below proper, refl)
implied_visits known a new w f other i n clause Kept v e ek but below (proper, inr h) =
    let P : Assignment → Type 0 = λ b. Visits known b w w f i Kept in
    subst P (sym h.1) (visiting_true known a w f other i n v e proper h.0, refl)
implied_visits known a new w f other i n clause Moved v e ek but below h = absurd h
implied_visits known a new w f other i n clause (Conflict number) v e ek but below h =
    let P : Assignment → Type 0 = λ b. Visits known b w w f i (Conflict number) in
    let Q : ℕ → Type 0 = λ m. IsConflict known a.lits m in
    subst P (sym h.1) (v, subst Q (sym h.0) (visiting_conflict known a other n clause ek but h.2))

-- the other literal is of a variable of the trail
pub entry_below : (known : List (List Literal)) (a : Assignment) (head : ℕ) (pairs : List Pair) (lists : List (List Watch)) (f other : Literal) (i n : ℕ) → All (AllBelow a.size) known → IsWatched known a head pairs lists → IsAtEntry pairs lists f i n other → other.var < a.size
entry_below known a head pairs lists f other i n below w e =
    let at = entry_clause known a head pairs lists f other i n w e in
    All-contains (λ (m : Literal). m.var < a.size) at.0 other (All-at (AllBelow a.size) known n at.0 at.1 below) at.2

-- an entry's clause is one of those that are known, and its blocker is of a variable of the trail
pub blocker_below : (known : List (List Literal)) (a : Assignment) (head : ℕ) (pairs : List Pair) (lists : List (List Watch)) (f : Literal) (i : ℕ) (w : Watch) → All (AllBelow a.size) known → IsWatched known a head pairs lists → slice_get (list_of lists f) i ≡ Some w → (w.blocker.var < a.size) × (w.clause < length pairs)
blocker_below known a head pairs lists f i w below watched at =
    let e = watched.entries (code_of f) w (place_member (list_of lists f) i w at) in
    let within = slice_get_within known w.clause e.0 e.1 in
    let count = watched.count in (
      All-contains (λ (m : Literal). m.var < a.size) e.0 w.blocker (All-at (AllBelow a.size) known w.clause e.0 e.1 below) e.2,
      omega arith,
    )
