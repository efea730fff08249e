use Rattle.std.proofs.Common.{refl, arith}
use Rattle.eq_reads.proofs.Rows.{appended_next}
use Rattle.eq_reads.proofs.row.fill.Goals as goal

pub loop-init : goal.loop-init
loop-init c = record { size = omega arith; kept = λ p lt. refl; added = λ j lt. absurd (omega arith) }

pub loop-preserved : goal.loop-preserved
loop-preserved c =
    appended_next c.args.row.now.items c.loop.row.items c.push.new.row.items c.loop.counter c.args.node
    (λ j. c.args.node) c.loop.invariant
    c.in_ok-push.ensures.size c.in_ok-push.ensures.there c.in_ok-push.ensures.kept refl
