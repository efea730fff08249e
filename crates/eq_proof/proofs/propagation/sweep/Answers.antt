use Rattle.std.proofs.Common.{◌<◌, arith}
use Rattle.std.proofs.lemmas.List.Elements.{All-contains}
use Rattle.eq_proof.specs.Assigned.{AllBelow}
use Rattle.eq_proof.proofs.Lists.{All-at, member_at}
use Rattle.eq_proof.proofs.Forcing.{refused_by}
use Rattle.eq_proof.proofs.Sweeping.{swept_start, swept_unit, swept_idle, swept_all}
use Rattle.eq_proof.proofs.propagation.sweep.Goals as goal
use Rattle.eq_proof.proofs.propagation.sweep.Goals.{in-Propagates+in_ok-assign-in-Propagates, in-Idle}

pub judge-requires-clause-below : goal.judge-requires-clause-below
judge-requires-clause-below c = rw c.loop-place.invariant.size (All-at (AllBelow c.args.trail.now.size) c.args.before.now c.loop-place.place c.at.result.now c.at.ensures.clause c.requires)

pub returns-in-Conflict-clause-answer : goal.returns-in-Conflict-clause-answer
returns-in-Conflict-clause-answer c =
    refused_by c.args.before.now c.args.trail.now.lits c.loop-place.trail.lits c.at.result.now (member_at c.args.before.now c.loop-place.place c.at.result.now c.at.ensures.clause) c.in-Conflict.ensures c.loop-place.invariant.forced

pub assign-requires-clause-within : goal.assign-requires-clause-within
assign-requires-clause-within c =
    let all : AllBelow c.loop-place.trail.size c.at.result.now = rw c.loop-place.invariant.size (All-at (AllBelow c.args.trail.now.size) c.args.before.now c.loop-place.place c.at.result.now c.at.ensures.clause c.requires) in
    All-contains (λ l. l.var < c.loop-place.trail.size) c.at.result.now c.in-Propagates.l all c.in-Propagates.ensures.member

pub loop-place-init : goal.loop-place-init
loop-place-init c = swept_start c.args.before.now c.args.trail.now

pub loop-place-preserved : goal.loop-place-preserved
loop-place-preserved c =
    elim c.match-judge.branch [
      | in-Propagates+in_ok-assign-in-Propagates w ↦
          rw (w.trail-is, w.changed-is) (swept_unit c.args.before.now c.args.trail.now c.loop-place.trail w.assign.new.self c.loop-place.place c.loop-place.changed c.at.result.now w.in-Propagates.l c.loop-place.invariant c.at.ensures.clause w.in-Propagates.ensures
          w.in_ok-assign-in-Propagates.ensures.ok w.in_ok-assign-in-Propagates.ensures.room w.in_ok-assign-in-Propagates.ensures.size)
      | in-Idle w ↦
          rw (w.trail-is, w.changed-is) (swept_idle c.args.before.now c.args.trail.now c.loop-place.trail c.loop-place.place c.loop-place.changed c.at.result.now c.loop-place.invariant c.at.ensures.clause w.in-Idle.ensures)
    ]

pub returns-clause-answer : goal.returns-clause-answer
returns-clause-answer c =
    swept_all c.args.before.now c.args.trail.now c.loop-place.trail c.loop-place.place c.loop-place.changed c.found.result c.loop-place.invariant (let end = c.loop-place-test.false in let all = c.len-place-end.ensures in omega arith) c.found.ensures
