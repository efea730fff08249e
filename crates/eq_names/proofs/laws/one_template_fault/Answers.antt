use Rattle.eq_names.proofs.PartLemmas.{same_fault}
use Rattle.eq_names.proofs.laws.one_template_fault.Goals as goal

pub returns : goal.returns
returns c = same_fault
