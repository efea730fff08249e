use Rattle.eq_vlex.specs.Numbers as spec
use Rattle.eq_vlex.proofs.Values.{below_wider}
use Rattle.eq_vlex.proofs.number.value_within.Goals as goal

pub returns-in-None : goal.returns-in-None
returns-in-None c small = c.in-None.ensures (below_wider (spec.value_of c.args.base c.args.digits.now) c.args.size c.requires.bits small)
