use Rattle.eq_net.proofs.Offsets.{bit_there, offset_next, offset_zero}
use Rattle.eq_net.proofs.laws.bits_stand_by_nets.Goals as goal

pub returns-clause-there : goal.returns-clause-there
returns-clause-there c = bit_there

pub returns-clause-first : goal.returns-clause-first
returns-clause-first c = offset_zero

pub returns-clause-next : goal.returns-clause-next
returns-clause-next c = offset_next
