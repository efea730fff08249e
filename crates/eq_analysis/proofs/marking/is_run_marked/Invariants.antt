use Rattle.std.proofs.Common.{◌≡◌, ℕ, List}
use Rattle.std.specs.List.{list_any}
use Rattle.eq_verilog.specs.Costs.{has_bit}
use Rattle.eq_analysis.specs.Marking.{AreMarked, run}
use Rattle.eq_analysis.proofs.marking.is_run_marked.Given as goal

abbrev pub invariant-loop-bit : goal.invariant-loop-bit
invariant-loop-bit l = (seen : List ℕ) → AreMarked l.marks seen → l.found ≡ list_any (has_bit seen) (run l.low l.bit)
