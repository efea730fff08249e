use Rattle.eq_model.specs.Frames.{values}
use Rattle.eq_net.specs.Whole.{parts_of}
use Rattle.eq_part.specs.inner.Visits.{FreeVisits}
use Rattle.eq_reads.specs.inner.Drawing.{Gains}
use Rattle.eq_part.proofs.visits.push_free.Given as goal

abbrev pub invariant-loop-b : goal.invariant-loop-b
invariant-loop-b l = Gains l.fn.edges.items l.edges.items (FreeVisits (parts_of l.gold) (values l.paired) l.places
    l.row.items l.b)
