use Rattle.std.proofs.Common.{◌≤◌, arith}
use Rattle.std.specs.Prelude.{All}
use Rattle.eq_proof.proofs.Lists.{length-inferences, inference_at, All-at}
use Rattle.eq_proof.proofs.log.Log.at.Goals as goal

pub at-requires : goal.at-requires
at-requires c = rw (← c.self.view_is, length-inferences _ _ c.self.invariant.same) at c.requires

pub at-requires-2 : goal.at-requires-2
at-requires-2 c =
    let within = rw (← c.self.view_is, length-inferences _ _ c.self.invariant.same) at c.requires in
    omega arith

pub returns-clause-step : goal.returns-clause-step
returns-clause-step c = rw (← c.self.view_is) (inference_at _ _ c.args.place _ _ c.at.ensures.clause c.at-2.ensures)

pub returns-clause-from_one : goal.returns-clause-from_one
returns-clause-from_one c = All-at (All (λ n. 1 ≤ n)) c.self.inside.ants c.args.place _ c.at-2.ensures c.self.invariant.from_one
