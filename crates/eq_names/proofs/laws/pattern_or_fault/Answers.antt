use Rattle.eq_names.proofs.Moving.{pattern_or_fault}
use Rattle.eq_names.proofs.laws.pattern_or_fault.Goals as goal

pub returns : goal.returns
returns c = pattern_or_fault
