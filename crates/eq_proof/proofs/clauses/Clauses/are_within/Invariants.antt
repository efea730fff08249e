use Rattle.std.proofs.Common.{◌≤◌, take}
use Rattle.std.specs.Prelude.{All}
use Rattle.eq_proof.proofs.clauses.Clauses.are_within.Given as goal

abbrev pub invariant-loop-place : goal.invariant-loop-place
invariant-loop-place l = All (All (λ a. a.var ≤ l.vars)) (take l.place l.self)
