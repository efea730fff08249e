use Rattle.eq_model.proofs.Combinational.{plain_equivalent}
use Rattle.eq_model.proofs.laws.combinational.Goals as goal

pub returns : goal.returns
returns c = plain_equivalent
