use Rattle.eq_cdcl.proofs.learning.into_step.Goals as goal

pub returns-clause-members : goal.returns-clause-members
returns-clause-members c = rw (← c.as_slice.ensures) c.in_ok-clause.ensures.members
