use Rattle.eq_names.proofs.PartLemmas.{only_ok, only_fault}
use Rattle.eq_names.proofs.template.Template.read.Goals as goal

pub returns-clause-only_ok : goal.returns-clause-only_ok
returns-clause-only_ok c = only_ok c.args.text.now c.args.wilds c.read_text.result c.read_text.ensures.ok c.read_text.ensures.fault

pub returns-clause-only_fault : goal.returns-clause-only_fault
returns-clause-only_fault c = only_fault c.args.text.now c.args.wilds c.read_text.result c.read_text.ensures.ok c.read_text.ensures.fault
