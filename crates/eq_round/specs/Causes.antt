-- Of which strategy a cause is.
use Rattle.std.specs.Prelude.{ℕ}
use Rattle.eq_compose.specs.declared.types.Cause.{Cause}
use Rattle.eq_compose.specs.declared.types.Cause.TheVariants.{Conflicts, Depth}

-- the number of the strategy that gave up
abbrev pub strategy_of : Cause → ℕ
strategy_of (Depth n depth) = n
strategy_of (Conflicts n conflicts) = n
