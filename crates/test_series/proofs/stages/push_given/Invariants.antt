use Rattle.std.proofs.Common.{◌≡◌, ◌++◌}
use Rattle.test_series.specs.Lists.{listed}
use Rattle.test_series.specs.Stages.{given}
use Rattle.test_series.proofs.stages.push_given.Given as goal

abbrev pub invariant-loop : goal.invariant-loop
invariant-loop l = l.out ≡ l.fn.out ++ listed given l.counter
