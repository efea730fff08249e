use Rattle.eq_net.proofs.Rippling.{sums_by_carries}
use Rattle.eq_net.proofs.laws.sums_by_carries.Goals as goal

pub returns : goal.returns
returns c = sums_by_carries
