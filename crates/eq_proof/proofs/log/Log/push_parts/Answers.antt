use Rattle.eq_proof.proofs.Lists.{IsLog-push, inferences-push, length-inferences}
use Rattle.eq_proof.proofs.log.Log.push_parts.Goals as goal

pub invariant_of-self-in-Ok : goal.invariant_of-self-in-Ok
invariant_of-self-in-Ok c =
    let few = rw (← c.self.view_is, length-inferences _ _ c.self.invariant.same) at c.requires.few in
    rw (c.in_ok-push.ensures.ok, c.in-Ok.ensures.ok) (IsLog-push _ _ _ _ c.self.invariant few c.requires.from_one)

pub returns-in-Ok-clause-ok : goal.returns-in-Ok-clause-ok
returns-in-Ok-clause-ok c =
    rw (c.in_ok-push.ensures.ok, c.in-Ok.ensures.ok, ← c.self.view_is) (inferences-push _ _ _ _ c.self.invariant.same)
