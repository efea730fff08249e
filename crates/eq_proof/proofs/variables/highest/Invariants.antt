use Rattle.std.proofs.Common.{◌≤◌, take}
use Rattle.std.specs.Prelude.{All}
use Rattle.eq_proof.specs.Inference.{clauses_of}
use Rattle.eq_proof.proofs.variables.highest.Given as goal

abbrev pub invariant-loop-index : goal.invariant-loop-index
invariant-loop-index l = All (All (λ a. a.var ≤ l.most)) (clauses_of (take l.index l.log))
