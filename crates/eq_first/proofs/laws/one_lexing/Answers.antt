use Rattle.eq_first.proofs.Lexed.{same_tokens}
use Rattle.eq_first.proofs.laws.one_lexing.Goals as goal

pub returns : goal.returns
returns c = same_tokens
