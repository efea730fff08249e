use Rattle.std.proofs.Common.{◌+◌, ◌≤◌, Bool, length, arith, subst}
use Rattle.eq_induct.specs.inner.Trying.{TriesTo}
use Rattle.eq_induct.proofs.TryLemmas.{all_tried}
use Rattle.eq_induct.proofs.deciding.decide.Goals as goal

pub returns-then-branch-clause-says : goal.returns-then-branch-clause-says
returns-then-branch-clause-says c =
    let part = c.args.part.now in
    let s = c.args.s.now in
    let P : Bool → Type 0 = λ done. TriesTo part s (c.loop-n.n + 1) c.try_at.new.decided done in
    let ended = subst P c.if-branch.true c.in_ok-try_at.ensures in
    c.a_verdict_is_induction.ensures part s c.try_at.new.decided ended.0

pub returns-clause-ok : goal.returns-clause-ok
returns-clause-ok c =
    all_tried c.args.part.now c.args.s.now c.loop-n.n c.loop-n.decided c.loop-n.invariant (omega arith)

pub returns-clause-says : goal.returns-clause-says
returns-clause-says c =
    let part = c.args.part.now in
    let s = c.args.s.now in
    let all : length s ≤ c.loop-n.n = omega arith in
    c.a_verdict_is_induction.ensures part s c.loop-n.decided
    (all_tried part s c.loop-n.n c.loop-n.decided c.loop-n.invariant all)
