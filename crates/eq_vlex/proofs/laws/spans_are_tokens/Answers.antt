use Rattle.eq_vlex.proofs.Whole.{tokens_stand}
use Rattle.eq_vlex.proofs.laws.spans_are_tokens.Goals as goal

pub returns : goal.returns
returns c = tokens_stand
