use Rattle.eq_bits.proofs.Meanings.{a_part}
use Rattle.eq_bits.proofs.laws.part_is_one.Goals as goal

pub returns : goal.returns
returns c = a_part
