use Rattle.std.proofs.Common.{length}
use Rattle.eq_cdcl.proofs.search.decide.Given as goal

abbrev pub decreases-loop-var : goal.decreases-loop-var
decreases-loop-var l = length l.heuristics.order.heap.items
