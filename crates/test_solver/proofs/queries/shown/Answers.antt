-- The solver's values satisfy the formula, whose clauses are those of the query.
use Rattle.std.proofs.Common.{subst, sym}
use Rattle.eq_proof.specs.Satisfying.{SatisfiesAll}
use Rattle.eq_cdcl.specs.Answer.{IfSat}
use Rattle.eq_cdcl.specs.Halting.{value_in}
use Rattle.eq_unroll.specs.Values.{value_of}
use Rattle.test_solver.proofs.queries.shown.Goals as goal

pub replayed-requires-clause-satisfies : goal.replayed-requires-clause-satisfies
replayed-requires-clause-satisfies c =
    let found : SatisfiesAll (value_in c.in-Sat.values) c.in_ok-f.f.clauses =
    subst (λ s. IfSat s (λ bits. SatisfiesAll (value_in bits) c.in_ok-f.f.clauses)) c.in-Sat.is
    c.in_ok-values.ensures.sat_satisfies in
    let copied : SatisfiesAll (value_of c.as_slice.result.now) c.in_ok-f.f.clauses =
    subst (λ bits. SatisfiesAll (value_of bits) c.in_ok-f.f.clauses) (sym c.as_slice.ensures) found in
    subst (SatisfiesAll (value_of c.as_slice.result.now)) c.in_ok-f.ensures.clauses copied
