use Rattle.eq_config.proofs.Uniqueness.{only_config, only_fault}
use Rattle.eq_config.proofs.read.read_config.Goals as goal

pub returns-clause-only_ok : goal.returns-clause-only_ok
returns-clause-only_ok c = only_config c.args.text.now c.read_whole.result c.read_whole.ensures.ok c.read_whole.ensures.fault

pub returns-clause-only_fault : goal.returns-clause-only_fault
returns-clause-only_fault c = only_fault c.args.text.now c.read_whole.result c.read_whole.ensures.ok c.read_whole.ensures.fault
