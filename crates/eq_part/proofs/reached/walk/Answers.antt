use Rattle.std.proofs.Common.{◌≡◌, ℕ, ◌<◌, ◌⊎◌, true, length, arith, subst}
use Rattle.eq_model.specs.Frames.{values}
use Rattle.eq_reads.specs.Graph.{Joins}
use Rattle.eq_part.specs.inner.Walking.{IsSettled}
use Rattle.eq_reads.specs.Words.{number_at}
use Rattle.eq_part.proofs.Walked.{element, walking_one}
use Rattle.eq_part.proofs.reached.walk.Goals as goal

pub loop-head-preserved : goal.loop-head-preserved
loop-head-preserved c =
    let at = c.loop-head in
    let queue = at.queue.items in
    let len = c.len.ensures in
    let test = c.loop-head-test.true in
    let lt : at.head < length queue = omega arith in
    let node = c.index.result.now in
    let is : node ≡ number_at queue at.head = element queue at.head node lt c.index.ensures in
    walking_one c.args.edges.now c.args.marks.now at.marks c.visit.new.marks queue c.visit.new.queue.items at.head c.visit.auto.marks lt at.invariant
    c.in_ok-visit.ensures.grew (subst (IsSettled c.args.edges.now c.visit.new.marks) is c.in_ok-visit.ensures.settled)
    (at.invariant.underway.there at.head lt).1
    (subst (λ (v : ℕ). (x : ℕ) → values c.visit.new.marks x ≡ true → (values at.marks x ≡ true) ⊎ Joins c.args.edges.now v x) is c.in_ok-visit.ensures.joined)
