use Rattle.std.proofs.Common.{arith, take, map, List, ◌∙◌, subst, refl}
use Rattle.std.specs.Prelude.{Contains}
use Rattle.std.proofs.lemmas.List.{take_all, map_push}
use Rattle.eq_proof.specs.Literal.{Literal, negation}
use Rattle.eq_proof.specs.Sets.{IsConsistent}
use Rattle.eq_proof.proofs.Judging.{taken_more, read_member, differs, in_whole}
use Rattle.eq_proof.proofs.Negations.{negation_twice, from_negations, to_negations, consistent_more}
use Rattle.eq_proof.proofs.derivation.assume_false.Goals as goal

-- a literal isn't false already, since no literal is there twice
pub returns-in-True-clause-answer : goal.returns-in-True-clause-answer
returns-in-True-clause-answer c =
    let seen = take c.loop-l.l-index c.args.clause.now in
    let x = c.l-item.result in
    let there : Contains (map negation seen) (negation x) = rw (← c.loop-l.invariant.lits, ← c.negation-negation.ensures) c.in-True.ensures.value.0 in
    let twice : Contains seen x = subst (Contains seen) (negation_twice x) (from_negations seen (negation x) there) in
    let apart = differs c.args.clause.now c.loop-l.l-index x x c.requires.ordered twice (omega arith) c.l-item.is in
    absurd (apart refl)

-- a literal that is true stands beside its negation
pub returns-in-False-clause-answer : goal.returns-in-False-clause-answer
returns-in-False-clause-answer c =
    let seen = take c.loop-l.l-index c.args.clause.now in
    let x = c.l-item.result in
    let P : Literal → Type 0 = λ n. Contains c.loop-l.trail.lits (negation n) in
    let Q : List Literal → Type 0 = λ lits. Contains lits (negation (negation x)) in
    let there : Contains (map negation seen) (negation (negation x)) = subst Q c.loop-l.invariant.lits (subst P c.negation-negation.ensures c.in-False.ensures.value.0) in
    let other : Contains seen (negation x) = subst (Contains seen) (negation_twice (negation x)) (from_negations seen (negation (negation x)) there) in
    λ consistent. consistent x (read_member _ c.loop-l.l-index x (omega arith) c.l-item.is) (in_whole c.args.clause.now c.loop-l.l-index (negation x) (omega arith) other)

pub loop-l-preserved : goal.loop-l-preserved
loop-l-preserved c =
    let seen = take c.loop-l.l-index c.args.clause.now in
    let x = c.l-item.result in
    let more = taken_more c.args.clause.now c.loop-l.l-index x (omega arith) c.l-item.is in
    let step = c.in_ok-assign-in-Unassigned.ensures in
    let none : ¬ Contains seen (negation x) = λ h. c.in-Unassigned.ensures.value.1 (rw (c.negation-negation.ensures, c.loop-l.invariant.lits) (to_negations seen (negation x) h)) in
    record {
      size = step.size ∙ c.loop-l.invariant.size;
      lits = rw (more, map_push negation seen x, step.ok, c.loop-l.invariant.lits, c.negation-negation.ensures) refl;
      consistent = rw more (consistent_more seen x c.loop-l.invariant.consistent none);
    }

pub returns-clause-answer : goal.returns-clause-answer
returns-clause-answer c = subst IsConsistent (take_all c.loop-l.l-index c.args.clause.now (omega arith)) c.loop-l.invariant.consistent
