use Rattle.eq_model.proofs.Moves.{stepped}
use Rattle.eq_model.proofs.laws.steps.Goals as goal

pub returns : goal.returns
returns c = stepped
