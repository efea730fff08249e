use Rattle.eq_cost.proofs.LineLemmas.{added_line}
use Rattle.eq_cost.proofs.lines.added.Goals as goal

pub returns : goal.returns
returns c = λ f g h k. added_line f g c.args.a c.args.b _ c.sum.ensures c.sum-2.ensures h k
