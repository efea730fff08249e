-- Where all literals of the trail have been visited, no clause is falsified or unit.
use Rattle.std.proofs.Common.{◌≡◌, ℕ, ◌≤◌, suc, inl, inr, List, length, get_or, arith, sym, ◌∙◌}
use Rattle.std.specs.Prelude.{All, Contains}
use Rattle.std.proofs.lemmas.List.Elements.{All-weaker, All-contains}
use Rattle.std.proofs.lemmas.Option.{slice_get_within, slice_get-get_or}
use Rattle.eq_proof.specs.Literal.{Literal, negation}
use Rattle.eq_proof.specs.Sets.{IsConsistent, IsFalse, IsFalsified, IsUnit}
use Rattle.eq_proof.proofs.Forcing.{member_or_not}
use Rattle.eq_proof.proofs.Judging.{the_one, idle_true}
use Rattle.eq_cdcl.specs.inner.Assignment.{Assignment}
use Rattle.eq_cdcl.specs.inner.Slots.{IsProper}
use Rattle.eq_cdcl.specs.inner.Judged.{IsLive}
use Rattle.eq_cdcl.specs.inner.Sound.{IsSound}
use Rattle.eq_cdcl.specs.inner.Found.{IsQuiet}
use Rattle.eq_cdcl.specs.inner.Watched.{StaysTrue, IsMinded, IsWatched}
use Rattle.eq_cdcl.specs.declared.watches.Pair.{Pair}
use Rattle.eq_cdcl.specs.declared.watches.Watch.{Watch}
use Rattle.eq_cdcl.proofs.Places.{member_place, place_member, element_at}
use Rattle.eq_cdcl.proofs.Sounds.{apart_consistent}

-- a clause is neither falsified nor unit, and a literal of it isn't false
abbrev pub IsIdle : List Literal → List Literal → Type 0
IsIdle set clause = (¬ IsFalsified set clause) × ((l : Literal) → ¬ IsUnit set clause l) × IsLive set clause

-- a clause with a true literal
idle_stays : (a : Assignment) (start : ℕ) (clause : List Literal) → IsConsistent a.lits → StaysTrue a start clause → IsIdle a.lits clause
idle_stays a start clause consistent s =
    let holds = place_member a.lits s.place s.literal s.there in
    let idle = idle_true a.lits clause s.literal s.member (holds, λ f. consistent s.literal holds f) in
    (idle.0, idle.1, (s.literal, s.member, s.proper, inl holds))

-- a clause that watches two literals which aren't false
idle_open : (set clause : List Literal) (pair : Pair) → Contains clause pair.first → Contains clause pair.second → IsProper pair.first → (pair.first ≡ pair.second → ⊥) → ¬ IsFalse set pair.first → ¬ IsFalse set pair.second → IsIdle set clause
idle_open set clause pair first second proper different first_open second_open = (
  λ all. first_open (All-contains (IsFalse set) clause pair.first all first),
  λ l unit. different (the_one set clause l pair.first unit first first_open ∙ sym (the_one set clause l pair.second unit second second_open)),
  (pair.first, first, proper, elim (member_or_not set pair.first) [ inl holds ↦ inl holds | inr none ↦ inr (none, first_open) ]),
)

idle_minded : (a : Assignment) (head : ℕ) (lists : List (List Watch)) (n : ℕ) (clause : List Literal) (pair : Pair) → IsConsistent a.lits → length a.lits ≤ head → IsMinded a head lists n clause pair → IsIdle a.lits clause
idle_minded a head lists n clause pair consistent end m =
    elim m.watched [
      | inl s ↦ idle_stays a 0 clause consistent s
      | inr o ↦ elim (member_or_not a.lits (negation pair.first)) [
        | inl f ↦
            let at = member_place a.lits (negation pair.first) f in
            let below = slice_get_within a.lits at.0 (negation pair.first) at.1 in
            idle_stays a (suc at.0) clause consistent (o.first_quiet at.0 (omega arith) at.1)
        | inr first_open ↦ elim (member_or_not a.lits (negation pair.second)) [
          | inl f ↦
              let at = member_place a.lits (negation pair.second) f in
              let below = slice_get_within a.lits at.0 (negation pair.second) at.1 in
              idle_stays a (suc at.0) clause consistent (o.second_quiet at.0 (omega arith) at.1)
          | inr second_open ↦ idle_open a.lits clause pair m.first m.second m.first_proper o.different first_open second_open
        ]
      ]
    ]

-- all clauses are idle
pub watched_quiet : (known : List (List Literal)) (a : Assignment) (head : ℕ) (pairs : List Pair) (lists : List (List Watch)) → IsSound known a → IsWatched known a head pairs lists → length a.lits ≤ head → IsQuiet known a.lits
watched_quiet known a head pairs lists sound w end =
    let consistent = apart_consistent a.lits sound.apart in
    let count = w.count in
    let idle : All (IsIdle a.lits) known = λ k d h.
    let clause = get_or known k d in
    let pair = element_at pairs k (omega arith) in
    idle_minded a head lists k clause pair.0 consistent end (w.minded k clause pair.0 (slice_get-get_or known k d h) pair.1) in
    record {
      settled = record {
        consistent = consistent;
        no_conflict = All-weaker (IsIdle a.lits) (λ clause. ¬ IsFalsified a.lits clause) (λ clause h. h.0) known idle;
        no_unit = All-weaker (IsIdle a.lits) (λ clause. (l : Literal) → ¬ IsUnit a.lits clause l) (λ clause h. h.1) known idle;
      };
      live = All-weaker (IsIdle a.lits) (IsLive a.lits) (λ clause h. h.2) known idle;
    }
