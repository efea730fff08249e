use Rattle.std.proofs.Common.{ap, ◌∙◌}
use Rattle.eq_cost.specs.Counts.{told}
use Rattle.eq_cost.proofs.expressions.costed_const.Goals as goal

pub returns : goal.returns
returns c = λ s. record {
  size = ap (λ n. told n) (c.leaf.ensures.size ∙ c.from.ensures);
  line = c.leaf.ensures.line;
}
