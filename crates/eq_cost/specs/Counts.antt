-- Counts up to the most that is told of a cost.
use Rattle.std.specs.Prelude.{ℕ, min}
use Rattle.eq_verilog.specs.Refusals.{most_told}

-- a count, or the most that is told where it is above that
abbrev pub told : ℕ → ℕ
told n = min n most_told
