use Rattle.std.proofs.Common.{◌-◌, length}
use Rattle.eq_part.proofs.Walked.{Walking}
use Rattle.eq_part.proofs.reached.walk.Given as goal

abbrev pub invariant-loop-head : goal.invariant-loop-head
invariant-loop-head l = Walking l.edges l.initial.marks l.marks l.queue.items l.head

abbrev pub decreases-loop-head : goal.decreases-loop-head
decreases-loop-head l = length l.marks - l.head
