use Rattle.eq_unroll.proofs.WithinVariables.{variables_in}
use Rattle.eq_unroll.proofs.laws.variables.Goals as goal

pub returns : goal.returns
returns c = variables_in
