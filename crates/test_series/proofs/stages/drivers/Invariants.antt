use Rattle.std.proofs.Common.{◌≡◌, ◌++◌}
use Rattle.test_series.specs.Lists.{listed}
use Rattle.test_series.specs.Stages.{driven, given}
use Rattle.test_series.proofs.stages.drivers.Given as goal

abbrev pub invariant-loop-word : goal.invariant-loop-word
invariant-loop-word l = l.drivers ≡ listed given l.width ++ driven l.width l.word
