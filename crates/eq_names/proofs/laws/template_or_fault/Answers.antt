use Rattle.eq_names.proofs.Moving.{template_or_fault}
use Rattle.eq_names.proofs.laws.template_or_fault.Goals as goal

pub returns : goal.returns
returns c = template_or_fault
