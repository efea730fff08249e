use Rattle.eq_analysis.proofs.EdgeLemmas.{AreAdding}
use Rattle.eq_analysis.proofs.hierarchy.add_edges.Given as goal

abbrev pub invariant-loop-item : goal.invariant-loop-item
invariant-loop-item l = AreAdding l.names l.from l.items l.fn.edges.items l.edges.items l.item-index
