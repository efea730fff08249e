use Rattle.eq_proof.proofs.Lists.{length-inferences}
use Rattle.eq_proof.proofs.log.Log.len.Goals as goal

pub returns : goal.returns
returns c = rw (← c.self.view_is, length-inferences _ _ c.self.invariant.same) c.len.ensures.value
