use Rattle.eq_model.proofs.RegisterTrials.{counter_free, counter_fails, counter_deep, counter_differs}
use Rattle.eq_model.proofs.examples.late_difference.Goals as goal

pub returns-clause-acyclic : goal.returns-clause-acyclic
returns-clause-acyclic c = counter_free

pub returns-clause-fails : goal.returns-clause-fails
returns-clause-fails c = counter_fails

pub returns-clause-unseen : goal.returns-clause-unseen
returns-clause-unseen c = counter_deep

pub returns-clause-unequal : goal.returns-clause-unequal
returns-clause-unequal c = counter_differs
