use Rattle.std.proofs.Common.{ℕ, List, ◌++◌}
use Rattle.eq_analysis.specs.Marking.{AreMarked, run}
use Rattle.eq_analysis.proofs.marking.mark_run.Given as goal

abbrev pub invariant-loop-bit : goal.invariant-loop-bit
invariant-loop-bit l = (seen : List ℕ) → AreMarked l.fn.marks seen → AreMarked l.marks (run l.low l.bit ++ seen)
