use Rattle.eq_model.proofs.Refuted.{equivalent_back, equivalent_on}
use Rattle.eq_model.proofs.laws.equivalence.equivalence_joins.Goals as goal

pub returns-clause-symmetric : goal.returns-clause-symmetric
returns-clause-symmetric c = equivalent_back

pub returns-clause-transitive : goal.returns-clause-transitive
returns-clause-transitive c = equivalent_on
