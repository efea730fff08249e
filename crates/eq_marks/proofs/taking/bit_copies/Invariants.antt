use Rattle.std.proofs.Common.{◌≡◌, map, take}
use Rattle.eq_marks.specs.inner.Carrying.{rows_mark}
use Rattle.eq_marks.specs.inner.Taking.{driven_mark}
use Rattle.eq_marks.proofs.taking.bit_copies.Given as goal

abbrev pub invariant-loop-driver : goal.invariant-loop-driver
invariant-loop-driver l = l.copies.items ≡ map (driven_mark (rows_mark l.rows.items)) (take l.driver-index
    l.drivers)
