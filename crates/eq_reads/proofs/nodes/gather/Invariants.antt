use Rattle.eq_reads.proofs.Swept.{Gathered}
use Rattle.eq_reads.proofs.nodes.gather.Given as goal

abbrev pub invariant-loop-place : goal.invariant-loop-place
invariant-loop-place l = Gathered l.fn.nodes l.row.items l.nodes l.fn.nodes.none l.all l.from l.place
