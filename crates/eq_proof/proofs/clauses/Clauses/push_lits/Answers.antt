use Rattle.eq_proof.specs.Clause.{IsClause}
use Rattle.eq_proof.proofs.Lists.{All-pushed}
use Rattle.eq_proof.proofs.clauses.Clauses.push_lits.Goals as goal

pub invariant_of-self : goal.invariant_of-self
invariant_of-self c = All-pushed IsClause c.push.result _ _ _ c.push.ensures.ok c.push.ensures.err c.self.invariant c.requires
