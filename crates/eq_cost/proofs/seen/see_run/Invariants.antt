use Rattle.std.proofs.Common.{ℕ, List, ◌++◌}
use Rattle.eq_analysis.specs.Marking.{run}
use Rattle.eq_cost.specs.inner.Seeing.{IsCounted}
use Rattle.eq_cost.proofs.seen.see_run.Given as goal

abbrev pub invariant-loop-bit : goal.invariant-loop-bit
invariant-loop-bit l = (bits : List ℕ) → IsCounted l.fn.seen bits → IsCounted l.seen (run l.low l.bit ++ bits)
