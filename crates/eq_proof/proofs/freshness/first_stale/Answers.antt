use Rattle.std.proofs.Common.{◌≡◌, Some, slice_get, ◌+◌, ◌≤◌, max, List, arith, ◌∙◌, subst, below_more}
use Rattle.std.specs.Prelude.{All}
use Rattle.eq_proof.specs.Literal.{Literal}
use Rattle.eq_proof.specs.Inference.{Inference}
use Rattle.eq_proof.specs.Fresh.{FreshAt, IsFresh}
use Rattle.eq_proof.proofs.Lists.{All-at}
use Rattle.eq_proof.proofs.Checking.{clause_at, below_from_bound, before_below}
use Rattle.eq_proof.proofs.freshness.first_stale.Goals as goal

pub is_fresh-requires-clause-clause_below : goal.is_fresh-requires-clause-clause_below
is_fresh-requires-clause-clause_below c =
    let size : c.loop-index.trail.size ≡ max c.args.f.now.vars c.highest.result + 1 = omega (arith, c.loop-index.invariant.size, c.in_ok-trail.ensures.size, c.max-most.ensures) in
    let bound = All-at (All (λ (l : Literal). l.var ≤ c.highest.result)) _ c.loop-index.index _ (clause_at c.args.log.now c.loop-index.index _ c.at-step.ensures.step) c.highest.ensures in
    below_from_bound c.highest.result c.loop-index.trail.size _ (omega arith) bound

pub is_fresh-requires-clause-before_below : goal.is_fresh-requires-clause-before_below
is_fresh-requires-clause-before_below c =
    let size : c.loop-index.trail.size ≡ max c.args.f.now.vars c.highest.result + 1 = omega (arith, c.loop-index.invariant.size, c.in_ok-trail.ensures.size, c.max-most.ensures) in
    rw c.new-before.ensures (before_below c.args.f.now.clauses c.args.log.now c.loop-index.index c.args.f.now.vars c.highest.result c.loop-index.trail.size size c.args.f.now.within c.highest.ensures)

pub loop-index-preserved : goal.loop-index-preserved
loop-index-preserved c =
    let log = c.args.log.now in
    let index = c.loop-index.index in
    let step : Inference = record { clause = c.at-step.result.clause.now; ants = c.at-step.result.ants.now } in
    let at : slice_get log index ≡ Some step = c.at-step.ensures.step in
    let P : List (List Literal) → Type 0 = λ before. IsFresh before step.clause in
    let fresh : FreshAt c.args.f.now.clauses log index = (step, at, subst P c.new-before.ensures (c.in_ok-is_fresh.ensures.answer.0 c.if-not-branch.false)) in
    record {
      size = c.is_fresh.ensures.size ∙ c.loop-index.invariant.size;
      empty = c.in_ok-is_fresh.ensures.empty;
      fresh = below_more _ _ c.loop-index.invariant.fresh fresh;
    }
