use Rattle.eq_model.proofs.Queries.{shown, run_shown}
use Rattle.eq_model.proofs.laws.solved.Goals as goal

pub returns : goal.returns
returns c = λ t part n x h. (shown t part n x h, run_shown t part n x h)
