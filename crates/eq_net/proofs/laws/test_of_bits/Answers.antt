use Rattle.eq_net.proofs.Deciding.{decided_by_bits}
use Rattle.eq_net.proofs.laws.test_of_bits.Goals as goal

pub returns : goal.returns
returns c = decided_by_bits c.ranked.ensures
