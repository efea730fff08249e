use Rattle.eq_net.specs.Whole.{parts_of}
use Rattle.eq_reads.specs.inner.Drawing.{Gains}
use Rattle.eq_part.specs.inner.Visits.{PairsVisit}
use Rattle.eq_part.proofs.visits.push_pairs.Given as goal

abbrev pub invariant-loop-i : goal.invariant-loop-i
invariant-loop-i l = Gains l.fn.edges.items l.edges.items (PairsVisit (parts_of l.gold) l.pairs l.leaders l.places
    l.row.items l.i)
