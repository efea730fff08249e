use Rattle.std.proofs.Common.{◌≡◌}
use Rattle.eq_verilog.specs.Firsts.{first_below}
use Rattle.eq_marks.specs.inner.Carrying.{rows_mark}
use Rattle.eq_marks.specs.inner.Taking.{takes_at}
use Rattle.eq_marks.proofs.taking.first_of_takers.Given as goal

abbrev pub invariant-loop-bit : goal.invariant-loop-bit
invariant-loop-bit l = l.first ≡ first_below l.bit (takes_at l.drivers l.outputs l.class (rows_mark l.rows))
