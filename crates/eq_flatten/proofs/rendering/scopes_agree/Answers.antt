use Rattle.eq_flatten.proofs.Agreeing.{makes_alike}
use Rattle.eq_flatten.proofs.rendering.scopes_agree.Goals as goal

pub returns : goal.returns
returns c = makes_alike
