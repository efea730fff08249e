use Rattle.std.proofs.Common.{drop, map}
use Rattle.eq_verilog.specs.Trees.{module_tree, expr_tree}
use Rattle.eq_analysis.proofs.RangeLemmas.{IsSummed}
use Rattle.eq_analysis.proofs.ranges.+exprs.Given as goal

abbrev pub invariant-measured_all-loop-part : goal.invariant-measured_all-loop-part
invariant-measured_all-loop-part l =
    IsSummed (module_tree l.table.within.now) (map expr_tree l.parts) (map expr_tree (drop l.part-index l.parts))
    l.size l.inside
