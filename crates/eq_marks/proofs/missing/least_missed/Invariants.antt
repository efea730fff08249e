use Rattle.std.proofs.Common.{◌≡◌}
use Rattle.eq_marks.specs.declared.marks.Way.TheVariants.{Reads}
use Rattle.eq_marks.specs.inner.Carrying.{rows_mark}
use Rattle.eq_marks.specs.inner.Marks.{mixed_all}
use Rattle.eq_marks.specs.inner.Missing.{missed_at}
use Rattle.eq_marks.proofs.missing.least_missed.Given as goal

abbrev pub invariant-loop-bit : goal.invariant-loop-bit
invariant-loop-bit l =
    l.first ≡ mixed_all Reads l.bit (missed_at l.drivers l.outputs l.marks (rows_mark l.rows))
