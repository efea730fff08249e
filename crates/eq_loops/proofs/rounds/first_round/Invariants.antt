use Rattle.eq_loops.specs.inner.Back.{AreClear}
use Rattle.eq_loops.proofs.rounds.first_round.Given as goal

abbrev pub invariant-loop-b : goal.invariant-loop-b
invariant-loop-b l = AreClear l.edges l.b
