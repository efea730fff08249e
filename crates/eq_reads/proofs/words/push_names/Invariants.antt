use Rattle.eq_reads.specs.inner.Leading.{Appended}
use Rattle.eq_reads.specs.inner.Reading.{named_at}
use Rattle.eq_reads.proofs.words.push_names.Given as goal

abbrev pub invariant-loop-k : goal.invariant-loop-k
invariant-loop-k l = Appended l.fn.row.items l.row.items l.k (named_at l.nets l.names)
