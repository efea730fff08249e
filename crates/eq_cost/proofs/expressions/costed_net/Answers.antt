use Rattle.std.proofs.Common.{ap, ◌∙◌}
use Rattle.eq_model.specs.Nets.{range_width}
use Rattle.eq_cost.specs.Counts.{told}
use Rattle.eq_cost.proofs.expressions.costed_net.Goals as goal

pub returns : goal.returns
returns c = record {
  size = ap (λ n. told n) (c.leaf.ensures.size ∙ c.bits_of.ensures.bits ∙ ap range_width c.range.ensures);
  line = c.leaf.ensures.line;
}
