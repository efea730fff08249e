use Rattle.eq_model.proofs.RegisterTrials.{feedback_proved, feedback_deep}
use Rattle.eq_model.proofs.examples.feedback_register.Goals as goal

pub returns-clause-proves : goal.returns-clause-proves
returns-clause-proves c = feedback_proved

pub returns-clause-unseen : goal.returns-clause-unseen
returns-clause-unseen c = feedback_deep
