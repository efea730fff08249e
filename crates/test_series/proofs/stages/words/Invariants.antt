use Rattle.std.proofs.Common.{◌≡◌}
use Rattle.eq_net.specs.Tree.{trees_of}
use Rattle.test_series.specs.Lists.{listed}
use Rattle.test_series.specs.Stages.{stage}
use Rattle.test_series.proofs.stages.words.Given as goal

abbrev pub invariant-loop-number : goal.invariant-loop-number
invariant-loop-number l = trees_of l.words ≡ listed (stage l.width) l.number
