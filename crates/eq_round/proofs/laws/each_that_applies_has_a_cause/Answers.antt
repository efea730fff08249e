use Rattle.eq_round.proofs.Causes.{cause_of_each, in_order}
use Rattle.eq_round.proofs.laws.each_that_applies_has_a_cause.Goals as goal

pub returns-clause-each : goal.returns-clause-each
returns-clause-each c part strategies d outcome unknown = cause_of_each part strategies d outcome unknown

pub returns-clause-order : goal.returns-clause-order
returns-clause-order c part strategies d outcome unknown = in_order part strategies d outcome unknown
