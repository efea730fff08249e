use Rattle.std.proofs.Common.{◌≡◌, None}
use Rattle.eq_verilog.specs.Firsts.{first_below}
use Rattle.eq_drivers.specs.inner.Doubling.{lacks_initial}
use Rattle.eq_drivers.proofs.doubling.first_lacking.Given as goal

abbrev pub invariant-loop-bit : goal.invariant-loop-bit
invariant-loop-bit l = first_below l.bit (lacks_initial l.flags l.begun) ≡ None
