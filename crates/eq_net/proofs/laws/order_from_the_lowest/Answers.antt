use Rattle.eq_net.proofs.Rippling.{less_from_lowest, same_from_lowest}
use Rattle.eq_net.proofs.laws.order_from_the_lowest.Goals as goal

pub returns-clause-less : goal.returns-clause-less
returns-clause-less c = less_from_lowest

pub returns-clause-same : goal.returns-clause-same
returns-clause-same c = same_from_lowest
