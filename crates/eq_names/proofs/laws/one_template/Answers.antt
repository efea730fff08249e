use Rattle.eq_names.proofs.PartLemmas.{same_parts}
use Rattle.eq_names.proofs.laws.one_template.Goals as goal

pub returns : goal.returns
returns c = λ text v w ps qs a b. same_parts v w ps qs text a.whole b.whole
