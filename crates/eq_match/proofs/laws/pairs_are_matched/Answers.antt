use Rattle.eq_match.proofs.PairLaws.{pairs_matched}
use Rattle.eq_match.proofs.laws.pairs_are_matched.Goals as goal

pub returns : goal.returns
returns c = pairs_matched
