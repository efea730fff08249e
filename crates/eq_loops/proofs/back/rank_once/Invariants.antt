use Rattle.eq_loops.proofs.Backs.{IsPassing}
use Rattle.eq_loops.proofs.back.rank_once.Given as goal

abbrev pub invariant-loop-e : goal.invariant-loop-e
invariant-loop-e l = IsPassing l.edges l.initial.ranks l.initial.vias l.ranks l.vias l.moved l.e
