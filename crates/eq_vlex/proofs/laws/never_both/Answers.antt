use Rattle.eq_vlex.proofs.Whole.{not_both}
use Rattle.eq_vlex.proofs.laws.never_both.Goals as goal

pub returns : goal.returns
returns c = not_both
