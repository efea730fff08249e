use Rattle.eq_net.proofs.Deciding.{decided}
use Rattle.eq_net.proofs.laws.test_of_nets.Goals as goal

pub returns : goal.returns
returns c = decided c.ranked.ensures
