use Rattle.eq_model.proofs.Bits.{is_place, is_some_place, bits_apart}
use Rattle.eq_model.proofs.laws.bits_of_nets.Goals as goal

pub returns-clause-number : goal.returns-clause-number
returns-clause-number c = is_place

pub returns-clause-place : goal.returns-clause-place
returns-clause-place c = is_some_place

pub returns-clause-apart : goal.returns-clause-apart
returns-clause-apart c = bits_apart
