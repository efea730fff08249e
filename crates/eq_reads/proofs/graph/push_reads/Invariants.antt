use Rattle.eq_reads.specs.inner.Drawing.{Gains, NowDrawn}
use Rattle.eq_reads.proofs.graph.push_reads.Given as goal

abbrev pub invariant-loop-b : goal.invariant-loop-b
invariant-loop-b l = Gains l.fn.edges.items l.edges.items (NowDrawn l.drivers l.places l.row.items l.b)
