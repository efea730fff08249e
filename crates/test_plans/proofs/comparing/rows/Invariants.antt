use Rattle.eq_net.specs.Whole.{parts_of}
use Rattle.test_plans.specs.inner.Rows.{AreRowsSoFar}
use Rattle.test_plans.proofs.comparing.rows.Given as goal

-- the rows so far are in order, and right
abbrev pub invariant-loop-i : goal.invariant-loop-i
invariant-loop-i l = AreRowsSoFar (parts_of l.work.gold.now) (parts_of l.work.gate.now) l.work.plan.now l.i l.rows
