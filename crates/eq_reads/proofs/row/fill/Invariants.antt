use Rattle.eq_reads.specs.inner.Leading.{Appended}
use Rattle.eq_reads.proofs.row.fill.Given as goal

abbrev pub invariant-loop : goal.invariant-loop
invariant-loop l = Appended l.fn.row.items l.row.items l.counter (λ j. l.node)
