use Rattle.std.proofs.Common.{◌↔◌, List, sym, subst}
use Rattle.eq_proof.specs.Literal.{Literal}
use Rattle.eq_unroll.specs.Values.{IsSatisfiable}
use Rattle.eq_unroll.specs.Query.{Holds}
use Rattle.eq_unroll.proofs.unrolling.formula.Goals as goal

pub returns-clause-satisfiable : goal.returns-clause-satisfiable
returns-clause-satisfiable c =
    let P : List (List Literal) → Type 0 = λ clauses. IsSatisfiable clauses ↔ Holds c.args.part.now c.args.q c.args.k in
    subst P (sym c.in_ok-clauses.ensures)
    (c.satisfiable_where_held.ensures c.args.part.now c.args.q c.args.k c.requires.from_one)
