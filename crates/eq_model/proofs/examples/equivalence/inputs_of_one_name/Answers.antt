use Rattle.eq_model.proofs.EquivalenceTrials.{collided_same, collided_refused, collided_unequal}
use Rattle.eq_model.proofs.examples.equivalence.inputs_of_one_name.Goals as goal

pub returns-clause-same : goal.returns-clause-same
returns-clause-same c = collided_same

pub returns-clause-refused : goal.returns-clause-refused
returns-clause-refused c = collided_refused

pub returns-clause-unequal : goal.returns-clause-unequal
returns-clause-unequal c = collided_unequal
