use Rattle.std.proofs.Common.{ℕ, ◌+◌, ◌<◌, ◌↔◌, length, get_or, drop, List, ◌∷◌, ◌∙◌, subst}
use Rattle.std.proofs.lemmas.List.{drop_more}
use Rattle.std.proofs.lemmas.List.Elements.{All-contains}
use Rattle.eq_proof.specs.Literal.{Literal}
use Rattle.eq_proof.specs.Assigned.{AllBelow}
use Rattle.eq_proof.specs.Derivation.{Refutes}
use Rattle.eq_proof.proofs.Lists.{All-at}
use Rattle.eq_proof.proofs.Refuting.{refutes_none, refutes_conflict, refutes_unit, refutes_idle, last_place, never_by, by_both, by_test}
use Rattle.eq_proof.proofs.derivation.refutes.Goals as goal

-- the antecedents from a place on
left : (before : List (List Literal)) (set : List Literal) (ants : List ℕ) (place : ℕ) (P : Type 0) → place < length ants → P ↔ Refutes before set (drop place ants) → P ↔ Refutes before set (get_or ants place 0 ∷ drop (place + 1) ants)
left before set ants place P within e = subst (λ (ns : List ℕ). P ↔ Refutes before set ns) (drop_more ants place 0 within) e

pub returns-in_default-clause-answer : goal.returns-in_default-clause-answer
returns-in_default-clause-answer c =
    never_by (left _ _ c.args.ants.now c.loop-place.place _ c.loop-place-test.true c.loop-place.invariant.same)
    (refutes_none c.args.before.now c.loop-place.trail.lits (get_or c.args.ants.now c.loop-place.place 0) _ c.in_default.ensures.none)

pub judge-requires-clause-below : goal.judge-requires-clause-below
judge-requires-clause-below c =
    rw c.loop-place.invariant.size (All-at (AllBelow c.args.trail.now.size) c.args.before.now _ c.in-Some.clause.now c.in-Some.ensures.found.1 c.requires)

pub returns-in-Conflict-clause-answer : goal.returns-in-Conflict-clause-answer
returns-in-Conflict-clause-answer c =
    let ants = c.args.ants.now in
    let place = c.loop-place.place in
    let last = refutes_conflict c.args.before.now c.loop-place.trail.lits (get_or ants place 0) (drop (place + 1) ants) c.in-Some.clause.now c.in-Some.ensures.found c.in-Conflict.ensures in
    let ends = last_place ants place c.loop-place-test.true in
    by_test (place + 1) (length ants) (by_both (by_both (left _ _ ants place _ c.loop-place-test.true c.loop-place.invariant.same) last) (ends.1, ends.0))

pub assign-requires-clause-within : goal.assign-requires-clause-within
assign-requires-clause-within c =
    let all : AllBelow c.loop-place.trail.size c.in-Some.clause.now = rw c.loop-place.invariant.size (All-at (AllBelow c.args.trail.now.size) c.args.before.now _ c.in-Some.clause.now c.in-Some.ensures.found.1 c.requires) in
    All-contains (λ l. l.var < c.loop-place.trail.size) c.in-Some.clause.now c.in-Propagates.l all c.in-Propagates.ensures.member

pub returns-in-Idle-clause-answer : goal.returns-in-Idle-clause-answer
returns-in-Idle-clause-answer c =
    never_by (left _ _ c.args.ants.now c.loop-place.place _ c.loop-place-test.true c.loop-place.invariant.same)
    (refutes_idle c.args.before.now c.loop-place.trail.lits (get_or c.args.ants.now c.loop-place.place 0) _ c.in-Some.clause.now c.in-Some.ensures.found c.in-Idle.ensures)

pub loop-place-preserved : goal.loop-place-preserved
loop-place-preserved c =
    let ants = c.args.ants.now in
    let place = c.loop-place.place in
    let step = c.in_ok-assign-in-Propagates.ensures in
    let more = refutes_unit c.args.before.now c.loop-place.trail.lits (get_or ants place 0) (drop (place + 1) ants) c.in-Some.clause.now c.in-Propagates.l c.in-Some.ensures.found c.in-Propagates.ensures in
    record {
      size = step.size ∙ c.loop-place.invariant.size;
      same = rw step.ok (by_both (left _ _ ants place _ c.loop-place-test.true c.loop-place.invariant.same) more);
    }
