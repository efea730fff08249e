use Rattle.eq_net.proofs.WordBits.{none_at}
use Rattle.eq_net.proofs.word.value_at.Goals as goal

pub returns-in-None : goal.returns-in-None
returns-in-None c = none_at c.args.bits.now c.args.at c.in-None.ensures.value
