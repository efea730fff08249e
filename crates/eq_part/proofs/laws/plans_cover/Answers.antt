use Rattle.eq_part.proofs.Covering.{covers}
use Rattle.eq_part.proofs.laws.plans_cover.Goals as goal

pub returns : goal.returns
returns c = covers
