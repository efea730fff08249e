use Rattle.eq_wit.proofs.KindHere.{fault_at_first}
use Rattle.eq_wit.proofs.read.evidence_of.Goals as goal

pub returns-in-None : goal.returns-in-None
returns-in-None c = fault_at_first c.args.text.now c.in-None.ensures
