use Rattle.eq_round.specs.Done.{AreDone}
use Rattle.eq_round.proofs.rounds.decide_round.Given as goal

-- what the partitions before number j of the round came to
abbrev pub invariant-loop-j : goal.invariant-loop-j
invariant-loop-j l = AreDone l.work l.first l.j l.round.items
