use Rattle.eq_model.proofs.Cycle.{rounds_solve}
use Rattle.eq_model.proofs.laws.rounds_solve.Goals as goal

pub returns : goal.returns
returns c = λ s sound loop_free cut u. rounds_solve s cut u sound loop_free
