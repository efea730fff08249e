use Rattle.std.proofs.Common.{◌≡◌, ◌++◌, length, map}
use Rattle.eq_config.specs.Configs as spec
use Rattle.eq_config.proofs.finish.strategies.Given as goal

-- those that were given their defaults, and those that are left
abbrev pub invariant-loop-sections : goal.invariant-loop-sections
invariant-loop-sections l = l.all ++ map spec.strategy_of l.sections ≡ map spec.strategy_of l.initial.sections

abbrev pub decreases-loop-sections : goal.decreases-loop-sections
decreases-loop-sections l = length l.sections
