use Rattle.eq_model.proofs.Prefix.{run_front, from_last}
use Rattle.eq_model.proofs.laws.shorter_runs.Goals as goal

pub returns-clause-run : goal.returns-clause-run
returns-clause-run c = run_front

pub returns-clause-last : goal.returns-clause-last
returns-clause-last c = from_last
