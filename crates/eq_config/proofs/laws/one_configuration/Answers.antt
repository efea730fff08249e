use Rattle.eq_config.proofs.Uniqueness.{one_config}
use Rattle.eq_config.proofs.laws.one_configuration.Goals as goal

pub returns : goal.returns
returns c = one_config
