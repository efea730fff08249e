use Rattle.eq_wit.proofs.OneFault.{one_fault}
use Rattle.eq_wit.proofs.laws.one_fault.Goals as goal

pub returns : goal.returns
returns c = one_fault
