use Rattle.eq_net.proofs.Stepping.{steps_run}
use Rattle.eq_net.proofs.laws.steps_are_the_run.Goals as goal

pub returns : goal.returns
returns c = steps_run c.steps.ensures
