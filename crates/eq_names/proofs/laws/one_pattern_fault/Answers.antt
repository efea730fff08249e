use Rattle.eq_names.proofs.Answered.{same_fault}
use Rattle.eq_names.proofs.laws.one_pattern_fault.Goals as goal

pub returns : goal.returns
returns c = same_fault
