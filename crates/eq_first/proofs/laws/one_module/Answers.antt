use Rattle.eq_first.proofs.Modules.{same_module}
use Rattle.eq_first.proofs.laws.one_module.Goals as goal

pub returns : goal.returns
returns c = same_module
