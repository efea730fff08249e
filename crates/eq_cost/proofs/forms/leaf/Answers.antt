use Rattle.std.proofs.Common.{refl}
use Rattle.eq_cost.proofs.forms.leaf.Goals as goal

pub returns-clause-line : goal.returns-clause-line
returns-clause-line c = c.flat.ensures (λ w. 0) (λ w. refl)
