use Rattle.std.proofs.Common.{ap, ◌∙◌}
use Rattle.eq_cost.specs.Counts.{told}
use Rattle.eq_cost.proofs.expressions.costed_part.Goals as goal

pub returns : goal.returns
returns c = λ s n. record {
  size = ap (λ k. told k) (c.leaf.ensures.size ∙ c.bits_of.ensures.bits);
  line = c.leaf.ensures.line;
}
