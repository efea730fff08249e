use Rattle.std.proofs.Common.{ℕ, List, true, subst, sym}
use Rattle.std.proofs.Math.ListN.{set}
use Rattle.eq_part.specs.inner.Walking.{Grew}
use Rattle.eq_part.proofs.Walked.{grew_one}
use Rattle.eq_part.proofs.reached.mark.Goals as goal

pub returns-in_ok-push-clause-grew : goal.returns-in_ok-push-clause-grew
returns-in_ok-push-clause-grew c =
    let queue = c.args.queue.now.items in
    subst (λ (q : List ℕ). Grew c.args.marks.now (set c.args.marks.now c.args.node true) queue q) (sym c.in_ok-push.ensures.items)
    (grew_one c.args.marks.now queue c.args.node c.requires c.if-not-marks-node.true)
