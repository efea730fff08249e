use Rattle.eq_model.proofs.Order.{free_from_rank}
use Rattle.eq_model.proofs.laws.ranked.Goals as goal

pub returns : goal.returns
returns c = free_from_rank
