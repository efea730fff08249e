use Rattle.eq_names.proofs.PartLemmas.{no_fault}
use Rattle.eq_names.proofs.laws.no_faulty_template.Goals as goal

pub returns : goal.returns
returns c = no_fault
