use Rattle.eq_reads.specs.inner.Leading.{Appended}
use Rattle.eq_reads.specs.inner.Reading.{picked_at}
use Rattle.eq_reads.proofs.words.push_picks.Given as goal

abbrev pub invariant-loop-k : goal.invariant-loop-k
invariant-loop-k l = Appended l.fn.row.items l.row.items l.k (picked_at l.places l.fn.row.items l.bits)
