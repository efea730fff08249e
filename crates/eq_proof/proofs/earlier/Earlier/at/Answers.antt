use Rattle.std.proofs.Common.{arith, rules}
use Rattle.eq_proof.proofs.Before.{length-before, get_left, step_before}
use Rattle.eq_proof.proofs.earlier.Earlier.at.Goals as goal

pub overflow_cast-place : goal.overflow_cast-place
overflow_cast-place c =
    let within = rw (← c.self.view_is, length-before _ _ c.self.inside.steps c.self.invariant.0) at c.requires in
    let few = c.self.invariant.1 in
    let all = c.len-clauses.ensures.value in
    search (rules, within, few)

pub returns-then-place-clauses-clause-clause : goal.returns-then-place-clauses-clause-clause
returns-then-place-clauses-clause-clause c = rw (← c.self.view_is) (get_left _ _ c.args.place _ c.at.ensures.clause)

pub returns-else-place-clauses-clause-clause : goal.returns-else-place-clauses-clause-clause
returns-else-place-clauses-clause-clause c =
    let within = rw (← c.self.view_is, length-before _ _ c.self.inside.steps c.self.invariant.0) at c.requires in
    let above = c.if-place-clauses.false in
    let all = c.len-clauses.ensures.value in
    rw (← c.self.view_is) (step_before _ _ c.self.inside.steps c.args.place _ _ (omega arith) (omega arith) c.at-else-place-clauses.ensures.step)
