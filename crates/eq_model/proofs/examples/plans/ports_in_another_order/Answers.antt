use Rattle.eq_model.proofs.PlanTrials.{turned_covers, turned_equivalent}
use Rattle.eq_model.proofs.examples.plans.ports_in_another_order.Goals as goal

pub returns-clause-covered : goal.returns-clause-covered
returns-clause-covered c = turned_covers

pub returns-clause-equal : goal.returns-clause-equal
returns-clause-equal c = turned_equivalent
