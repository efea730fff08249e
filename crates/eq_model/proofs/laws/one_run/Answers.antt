use Rattle.eq_model.proofs.Trace.{one_run}
use Rattle.eq_model.proofs.laws.one_run.Goals as goal

pub returns : goal.returns
returns c = one_run
