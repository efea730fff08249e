use Rattle.std.proofs.Common.{arith, refl}
use Rattle.eq_wit.proofs.StepLemmas.{in_order}
use Rattle.eq_wit.proofs.steps.is_clause.Goals as goal

pub returns : goal.returns
returns c = (
  λ yes'. in_order c.args.lits.now (λ i d less. c.loop-place.invariant.1 i d (omega (arith, less)) less),
  λ clause. refl,
)
