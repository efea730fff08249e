use Rattle.eq_model.proofs.RegisterTrials.{gated_never, gated_deep}
use Rattle.eq_model.proofs.examples.gated_register.Goals as goal

pub returns-clause-never : goal.returns-clause-never
returns-clause-never c = gated_never

pub returns-clause-unseen : goal.returns-clause-unseen
returns-clause-unseen c = gated_deep
