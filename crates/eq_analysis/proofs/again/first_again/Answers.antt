use Rattle.std.proofs.Common.{sym, ◌∙◌}
use Rattle.eq_analysis.proofs.AgainLemmas.{again_here, again_later}
use Rattle.eq_analysis.proofs.again.first_again.Goals as goal

pub returns-then-branch-clause-again : goal.returns-then-branch-clause-again
returns-then-branch-clause-again c =
    again_here (λ n. n.now) c.args.names.now c.loop-name.name-index c.name-item.result c.name-item.result
    c.loop-name.table c.loop-name-test.true (sym c.name-item.is) c.loop-name.invariant
    (sym c.in_ok-meets.ensures.again ∙ c.if-branch.true)

pub loop-name-preserved : goal.loop-name-preserved
loop-name-preserved c =
    again_later (λ n. n.now) c.args.names.now c.loop-name.name-index c.name-item.result c.name-item.result
    c.loop-name.table c.loop-name-test.true (sym c.name-item.is) c.loop-name.invariant c.meets.new.table
    (sym c.in_ok-meets.ensures.again ∙ c.if-branch.false) c.in_ok-meets.ensures.names
