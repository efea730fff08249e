-- True literals that stay: one literal more on the trail, and a front alone.
use Rattle.std.proofs.Common.{◌≡◌, ℕ, ◌<◌, ◌≤◌, ◌⊎◌, suc, inl, inr, List, [], ◌∷◌, length, arith}
use Rattle.std.proofs.lemmas.Bool.{cases_lt}
use Rattle.std.proofs.lemmas.List.{length_push, length-take-le}
use Rattle.std.proofs.lemmas.Option.{slice_get_within}
use Rattle.eq_proof.specs.Literal.{Literal, negation}
use Rattle.eq_cdcl.specs.inner.Assignment.{Assignment, extended, cut_to}
use Rattle.eq_cdcl.specs.inner.Watched.{IsCut, StaysTrue, IsQuietFor, IsMinded, IsWatched}
use Rattle.eq_cdcl.specs.declared.trail.Reason.{Reason}
use Rattle.eq_cdcl.specs.declared.trail.Reason.TheVariants.{Decision}
use Rattle.eq_cdcl.specs.declared.watches.Pair.{Pair}
use Rattle.eq_cdcl.specs.declared.watches.Watch.{Watch}
use Rattle.eq_cdcl.proofs.Places.{push_cases, push_old, taken_place, place_taken}

-- a true literal stays where one comes behind it
pub stays_extended : (a : Assignment) (l : Literal) (reason : Reason) (start : ℕ) (clause : List Literal) → length a.reasons ≡ length a.lits → StaysTrue a start clause → StaysTrue (extended a l reason) start clause
stays_extended a l reason start clause same s =
    let below = slice_get_within a.lits s.place s.literal s.there in
    record {
      literal = s.literal;
      member = s.member;
      proper = s.proper;
      place = s.place;
      there = push_old a.lits (l ∷ []) s.place s.literal s.there;
      level = λ d from to e. elim (push_cases a.reasons reason d Decision e) [
        | inl old ↦ s.level d from to old
        | inr last ↦ absurd (let at = last.0 in omega arith)
      ];
    }

-- a true literal stays where a decision behind it is taken back
pub stays_cut : (a : Assignment) (n start : ℕ) (clause : List Literal) → IsCut a n → start ≤ n → StaysTrue a start clause → StaysTrue (cut_to n a) start clause
stays_cut a n start clause cut from s =
    let below = slice_get_within a.lits s.place s.literal s.there in
    let lt : s.place < n = elim cut [
      | inl end ↦ omega arith
      | inr decision ↦ elim (cases_lt s.place n) [ inl h ↦ h | inr h ↦ absurd (s.level n from h decision) ]
    ] in
    record {
      literal = s.literal;
      member = s.member;
      proper = s.proper;
      place = s.place;
      there = place_taken n a.lits s.place s.literal lt s.there;
      level = λ d low high e. s.level d low high (taken_place n a.reasons d Decision e).1;
    }

-- a true literal of level 0 stays as long as any
pub stays_later : (a : Assignment) (start later : ℕ) (clause : List Literal) → start ≤ later → StaysTrue a start clause → StaysTrue a later clause
stays_later a start later clause le s = record {
  literal = s.literal;
  member = s.member;
  proper = s.proper;
  place = s.place;
  there = s.there;
  level = λ d low high e. s.level d (omega arith) high e;
}

quiet_extended : (a : Assignment) (l k : Literal) (reason : Reason) (head : ℕ) (clause : List Literal) → length a.reasons ≡ length a.lits → head ≤ length a.lits → IsQuietFor a head clause k → IsQuietFor (extended a l reason) head clause k
quiet_extended a l k reason head clause same within quiet p lt at =
    elim (push_cases a.lits l p (negation k) at) [
      | inl old ↦ stays_extended a l reason (suc p) clause same (quiet p lt old)
      | inr last ↦ absurd (let e = last.0 in omega arith)
    ]

minded_extended : (a : Assignment) (l : Literal) (reason : Reason) (head : ℕ) (lists : List (List Watch)) (n : ℕ) (clause : List Literal) (pair : Pair) → length a.reasons ≡ length a.lits → head ≤ length a.lits → IsMinded a head lists n clause pair → IsMinded (extended a l reason) head lists n clause pair
minded_extended a l reason head lists n clause pair same within m = record {
  first = m.first;
  second = m.second;
  first_proper = m.first_proper;
  second_proper = m.second_proper;
  watched = elim m.watched [
    | inl s ↦ inl (stays_extended a l reason 0 clause same s)
    | inr o ↦ inr (record {
      different = o.different;
      first_listed = o.first_listed;
      second_listed = o.second_listed;
      first_quiet = quiet_extended a l pair.first reason head clause same within o.first_quiet;
      second_quiet = quiet_extended a l pair.second reason head clause same within o.second_quiet;
    })
  ];
}

-- one literal more: a decision only where all literals have been visited
pub watched_extended : (known : List (List Literal)) (a : Assignment) (l : Literal) (reason : Reason) (head : ℕ) (pairs : List Pair) (lists : List (List Watch)) → length a.reasons ≡ length a.lits → (reason ≡ Decision → head ≡ length a.lits) → IsWatched known a head pairs lists → IsWatched known (extended a l reason) head pairs lists
watched_extended known a l reason head pairs lists same end w = record {
  count = w.count;
  room = w.room;
  entries = w.entries;
  minded = λ n clause pair ek ep. minded_extended a l reason head lists n clause pair same w.within (w.minded n clause pair ek ep);
  within = let old = w.within in omega (arith, length_push a.lits l);
  last_level = λ d lt e. elim (push_cases a.reasons reason d Decision e) [
    | inl old ↦ w.last_level d lt old
    | inr last ↦ absurd (let at = last.0 in let h = end last.1 in omega arith)
  ];
}

quiet_cut : (a : Assignment) (n head head' : ℕ) (clause : List Literal) (k : Literal) → IsCut a n → head' ≤ head → head' ≤ n → IsQuietFor a head clause k → IsQuietFor (cut_to n a) head' clause k
quiet_cut a n head head' clause k cut le fit quiet p lt at =
    let t = taken_place n a.lits p (negation k) at in
    stays_cut a n (suc p) clause cut (omega arith) (quiet p (omega arith) t.1)

-- a front alone, which ends at a decision or at the end
pub watched_cut : (known : List (List Literal)) (a : Assignment) (n head head' : ℕ) (pairs : List Pair) (lists : List (List Watch)) → n ≤ length a.lits → IsCut a n → head' ≤ head → head' ≤ n → (head' ≡ head) ⊎ (head' ≡ n) → IsWatched known a head pairs lists → IsWatched known (cut_to n a) head' pairs lists
watched_cut known a n head head' pairs lists fits cut le fit which w = record {
  count = w.count;
  room = w.room;
  entries = w.entries;
  minded = λ m clause pair ek ep.
      let old = w.minded m clause pair ek ep in
      record {
        first = old.first;
        second = old.second;
        first_proper = old.first_proper;
        second_proper = old.second_proper;
        watched = elim old.watched [
          | inl s ↦ inl (stays_cut a n 0 clause cut (omega arith) s)
          | inr o ↦ inr (record {
            different = o.different;
            first_listed = o.first_listed;
            second_listed = o.second_listed;
            first_quiet = quiet_cut a n head head' clause pair.first cut le fit o.first_quiet;
            second_quiet = quiet_cut a n head head' clause pair.second cut le fit o.second_quiet;
          })
        ];
      };
  within = omega (arith, length-take-le n a.lits fits);
  last_level = λ d lt e.
      let t = taken_place n a.reasons d Decision e in
      elim which [
        | inl same ↦ w.last_level d (omega arith) t.1
        | inr at ↦ absurd (let below = t.0 in omega arith)
      ];
}
