use Rattle.eq_vlex.proofs.Whole.{one_list}
use Rattle.eq_vlex.proofs.laws.at_most_one_list.Goals as goal

pub returns : goal.returns
returns c = one_list
