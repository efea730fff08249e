use Rattle.std.proofs.Common.{◌≡◌, ◌++◌, map}
use Rattle.eq_unroll.specs.Unrolling.{agreement_rows, ordered}
use Rattle.eq_unroll.proofs.frames.push_agreements.Given as goal

abbrev pub invariant-loop-f : goal.invariant-loop-f
invariant-loop-f l = l.clauses ≡ l.initial.clauses ++ map ordered (agreement_rows l.n l.outputs l.f)
