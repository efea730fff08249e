use Rattle.eq_net.proofs.Follows.{word_same}
use Rattle.eq_net.proofs.laws.words_follow_their_picks.Goals as goal

pub returns : goal.returns
returns c = word_same
