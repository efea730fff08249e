use Rattle.eq_part.proofs.Walked.{Visiting}
use Rattle.eq_part.proofs.reached.visit.Given as goal

abbrev pub invariant-loop-link : goal.invariant-loop-link
invariant-loop-link l = Visiting l.edges l.node l.link l.initial.marks l.marks l.initial.queue.items l.queue.items

abbrev pub decreases-loop-link : goal.decreases-loop-link
decreases-loop-link l = l.link
