use Rattle.eq_model.proofs.EquivalenceTrials.{steady, change_differs}
use Rattle.eq_model.proofs.examples.equivalence.output_of_a_change.Goals as goal

pub returns-clause-steady : goal.returns-clause-steady
returns-clause-steady c = steady

pub returns-clause-unequal : goal.returns-clause-unequal
returns-clause-unequal c = change_differs
