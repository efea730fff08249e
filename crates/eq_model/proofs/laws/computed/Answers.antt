use Rattle.eq_model.proofs.Cycle.{solution, from_solution}
use Rattle.eq_model.proofs.laws.computed.Goals as goal

pub returns : goal.returns
returns c = λ s cut u v. (solution s cut u v, from_solution s cut u v)
