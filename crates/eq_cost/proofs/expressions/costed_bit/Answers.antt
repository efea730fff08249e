use Rattle.std.proofs.Common.{ap}
use Rattle.eq_cost.specs.Counts.{told}
use Rattle.eq_cost.proofs.expressions.costed_bit.Goals as goal

pub returns : goal.returns
returns c = λ s n i. record { size = ap (λ k. told k) c.leaf.ensures.size; line = c.leaf.ensures.line }
