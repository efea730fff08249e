use Rattle.eq_unroll.proofs.InOrder.{ordered_clause, ordered_members}
use Rattle.eq_unroll.proofs.laws.ordered_is_a_clause.Goals as goal

pub returns-clause-ordered : goal.returns-clause-ordered
returns-clause-ordered c = ordered_clause

pub returns-clause-members : goal.returns-clause-members
returns-clause-members c = ordered_members
