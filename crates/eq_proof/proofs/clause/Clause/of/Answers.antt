use Rattle.std.proofs.Common.{sym, subst}
use Rattle.std.proofs.lemmas.List.Filters.{dedup_is}
use Rattle.eq_proof.specs.Clause.{IsClause}
use Rattle.eq_proof.proofs.Sorting.{same_literal, IsClause-dedup, kept}
use Rattle.eq_proof.proofs.clause.Clause.of.Goals as goal

pub invariant_of-result : goal.invariant_of-result
invariant_of-result c =
    let is = dedup_is same_literal _ _ c.dedup.ensures.filtered in
    subst IsClause (sym is) (IsClause-dedup _ c.sort_unstable.ensures.sorted)

pub returns-clause-ordered : goal.returns-clause-ordered
returns-clause-ordered c = invariant_of-result c

pub returns-clause-members : goal.returns-clause-members
returns-clause-members c =
    let is = dedup_is same_literal _ _ c.dedup.ensures.filtered in
    rw (← c.in_ok-lits.ensures.items, is) (kept _ _ c.sort_unstable.ensures.permutation)
