use Rattle.eq_wit.proofs.Lrat.{logs_are_lrat}
use Rattle.eq_wit.proofs.laws.logs_are_lrat.Goals as goal

pub returns : goal.returns
returns c = logs_are_lrat
