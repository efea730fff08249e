use Rattle.eq_cost.proofs.LineLemmas.{line_at}
use Rattle.eq_cost.proofs.lines.at.Goals as goal

pub returns : goal.returns
returns c = λ f n h k.
    line_at f c.args.line c.args.size n c.product.result c.sum.result c.product.ensures c.sum.ensures h k
