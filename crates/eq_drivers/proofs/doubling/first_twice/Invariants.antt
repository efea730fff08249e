use Rattle.std.proofs.Common.{◌≡◌, None}
use Rattle.eq_verilog.specs.Firsts.{first_below}
use Rattle.eq_drivers.specs.inner.Doubling.{is_doubled}
use Rattle.eq_drivers.proofs.doubling.first_twice.Given as goal

abbrev pub invariant-loop-bit : goal.invariant-loop-bit
invariant-loop-bit l = first_below l.bit (is_doubled l.driven l.followed l.begun) ≡ None
