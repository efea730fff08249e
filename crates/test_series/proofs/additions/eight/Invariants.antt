use Rattle.std.proofs.Common.{◌≡◌, ◌+◌}
use Rattle.test_series.specs.Additions.{name}
use Rattle.test_series.specs.Lists.{listed}
use Rattle.test_series.proofs.additions.eight.Given as goal

abbrev pub invariant-loop-i : goal.invariant-loop-i
invariant-loop-i l = l.names ≡ listed (λ i. name (l.from + i)) l.i
