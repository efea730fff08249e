use Rattle.eq_net.proofs.Designed.{net_is_design}
use Rattle.eq_net.proofs.laws.net_is_design.Goals as goal

pub returns : goal.returns
returns c = net_is_design
