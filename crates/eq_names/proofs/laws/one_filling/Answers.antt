use Rattle.eq_names.proofs.Moving.{one_filling}
use Rattle.eq_names.proofs.laws.one_filling.Goals as goal

pub returns : goal.returns
returns c = one_filling
