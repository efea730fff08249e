use Rattle.eq_analysis.proofs.StackLemmas.{ArePushed}
use Rattle.eq_analysis.proofs.visiting.add_instances.Given as goal

abbrev pub invariant-loop-place : goal.invariant-loop-place
invariant-loop-place l = ArePushed l.items l.left l.fn.stack.items l.place l.stack.items

abbrev pub decreases-loop-place : goal.decreases-loop-place
decreases-loop-place l = l.place
