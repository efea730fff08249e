use Rattle.std.proofs.Common.{◌≡◌, drop}
use Rattle.eq_config.specs.Configs as spec
use Rattle.eq_config.proofs.finish.missing_use.Given as goal

-- the strategies so far have their use
abbrev pub invariant-loop-s : goal.invariant-loop-s
invariant-loop-s l = spec.missing_use (drop l.s-index l.strategies) ≡ spec.missing_use l.strategies
