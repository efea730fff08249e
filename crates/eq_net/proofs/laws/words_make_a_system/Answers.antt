use Rattle.eq_net.proofs.Designed.{words_make_a_system}
use Rattle.eq_net.proofs.laws.words_make_a_system.Goals as goal

pub returns : goal.returns
returns c = words_make_a_system
