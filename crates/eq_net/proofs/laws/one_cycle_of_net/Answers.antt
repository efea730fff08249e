use Rattle.eq_net.specs.Net.{system_of}
use Rattle.eq_net.proofs.Designed.{net_is_system}
use Rattle.eq_net.proofs.laws.one_cycle_of_net.Goals as goal

pub returns : goal.returns
returns c = λ n is. c.one_cycle.ensures (system_of n) (net_is_system n is) is.loop_free
