use Rattle.eq_vlex.proofs.Whole.{one_fault}
use Rattle.eq_vlex.proofs.laws.at_most_one_fault.Goals as goal

pub returns : goal.returns
returns c = one_fault
