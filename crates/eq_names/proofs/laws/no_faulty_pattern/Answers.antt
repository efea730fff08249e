use Rattle.eq_names.proofs.Answered.{no_fault}
use Rattle.eq_names.proofs.laws.no_faulty_pattern.Goals as goal

pub returns : goal.returns
returns c = no_fault
