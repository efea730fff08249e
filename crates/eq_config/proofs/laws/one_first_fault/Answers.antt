use Rattle.eq_config.proofs.Uniqueness.{one_fault}
use Rattle.eq_config.proofs.laws.one_first_fault.Goals as goal

pub returns : goal.returns
returns c = one_fault
