use Rattle.std.proofs.Common.{◌≡◌}
use Rattle.test_series.specs.Lists.{listed}
use Rattle.test_series.specs.Stages.{place}
use Rattle.test_series.proofs.stages.all_bits.Given as goal

abbrev pub invariant-loop-bit : goal.invariant-loop-bit
invariant-loop-bit l = l.names ≡ listed (place l.net) l.bit
