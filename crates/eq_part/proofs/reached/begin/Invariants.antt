use Rattle.eq_part.proofs.Walked.{Begun}
use Rattle.eq_part.proofs.reached.begin.Given as goal

abbrev pub invariant-loop-node : goal.invariant-loop-node
invariant-loop-node l = Begun l.roots l.initial.marks l.marks l.initial.queue.items l.queue.items l.node
