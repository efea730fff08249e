use Rattle.std.proofs.Common.{◌≡◌, [], ◌∷◌}
use Rattle.eq_net.specs.declared.types.Dir.TheVariants.{Input}
use Rattle.test_series.specs.Lists.{listed, ranged}
use Rattle.test_series.specs.Stages.{stage_net}
use Rattle.test_series.proofs.stages.nets.Given as goal

abbrev pub invariant-loop-number : goal.invariant-loop-number
invariant-loop-number l = l.nets ≡ ranged (97 ∷ []) l.width Input ∷ listed (stage_net l.width l.count) l.number
