use Rattle.std.proofs.Common.{◌≡◌}
use Rattle.test_series.specs.Additions.{driver}
use Rattle.test_series.specs.Lists.{listed}
use Rattle.test_series.proofs.additions.drivers.Given as goal

abbrev pub invariant-loop-bit : goal.invariant-loop-bit
invariant-loop-bit l = l.drivers ≡ listed (driver l.last) l.bit
