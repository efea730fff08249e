use Rattle.eq_net.proofs.Carries.{minus_by_complement}
use Rattle.eq_net.proofs.Rippling.{negative_by_complement}
use Rattle.eq_net.proofs.laws.differences_by_complements.Goals as goal

pub returns-clause-difference : goal.returns-clause-difference
returns-clause-difference c = minus_by_complement

pub returns-clause-negative : goal.returns-clause-negative
returns-clause-negative c = negative_by_complement
