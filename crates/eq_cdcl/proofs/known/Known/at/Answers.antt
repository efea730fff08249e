use Rattle.std.proofs.Common.{◌≡◌, ◌+◌, ◌-◌, arith, length, length-append}
use Rattle.std.proofs.lemmas.List.{length-map}
use Rattle.eq_proof.specs.Inference.{Inference, clauses_of}
use Rattle.eq_proof.proofs.Before.{get_left, get_right}
use Rattle.eq_proof.proofs.Checking.{clause_at}
use Rattle.eq_cdcl.proofs.known.Known.at.Goals as goal

pub overflow_cast-place : goal.overflow_cast-place
overflow_cast-place c =
    let mapped = length-map c.self.inside.log.now (λ (s : Inference). s.clause) in
    let both = length-append c.self.inside.formula.now.clauses (clauses_of c.self.inside.log.now) in
    let within = rw (← c.self.view_is) at c.requires in
    let few = c.self.invariant.1 in
    let steps = c.self.invariant.0 in
    let all = c.len-clauses.ensures.value in
    omega (arith, mapped, both, within)

pub at-requires-else-place-clauses : goal.at-requires-else-place-clauses
at-requires-else-place-clauses c =
    let mapped = length-map c.self.inside.log.now (λ (s : Inference). s.clause) in
    let both = length-append c.self.inside.formula.now.clauses (clauses_of c.self.inside.log.now) in
    let within = rw (← c.self.view_is) at c.requires in
    let all = c.len-clauses.ensures.value in
    omega (arith, mapped, both, within)

pub returns-then-place-clauses-clause-clause : goal.returns-then-place-clauses-clause-clause
returns-then-place-clauses-clause-clause c = rw (← c.self.view_is) (get_left _ _ c.args.place _ c.at.ensures.clause)

pub returns-else-place-clauses-clause-clause : goal.returns-else-place-clauses-clause-clause
returns-else-place-clauses-clause-clause c =
    let above = c.if-place-clauses.false in
    let all = c.len-clauses.ensures.value in
    let clauses = c.self.inside.formula.now.clauses in
    let at : c.args.place ≡ length clauses + (c.args.place - c.len-clauses.result) = omega arith in
    rw (← c.self.view_is) (get_right clauses _ c.args.place (c.args.place - c.len-clauses.result) _ at (clause_at c.self.inside.log.now (c.args.place - c.len-clauses.result) _ c.at-else-place-clauses.ensures.step))
