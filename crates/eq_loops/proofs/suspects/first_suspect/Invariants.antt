use Rattle.eq_loops.proofs.Suspected.{AreSuspects}
use Rattle.eq_loops.proofs.suspects.first_suspect.Given as goal

abbrev pub invariant-loop-edge : goal.invariant-loop-edge
invariant-loop-edge l = AreSuspects l.edges l.numbers l.bits l.first l.edge-index
