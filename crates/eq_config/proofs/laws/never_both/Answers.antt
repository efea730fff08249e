use Rattle.eq_config.proofs.Uniqueness.{not_both}
use Rattle.eq_config.proofs.laws.never_both.Goals as goal

pub returns : goal.returns
returns c = not_both
