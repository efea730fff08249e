use Rattle.std.proofs.Common.{◌≡◌, true, drop, map}
use Rattle.eq_verilog.specs.Trees.{module_tree, target_tree, join_all}
use Rattle.eq_verilog.specs.ModuleRefusals.{bad_range_in}
use Rattle.eq_analysis.proofs.ranges.+targets.Given as goal

abbrev pub invariant-range_in_targets-loop-part : goal.invariant-range_in_targets-loop-part
invariant-range_in_targets-loop-part l =
    bad_range_in (module_tree l.table.within.now) true (join_all (map target_tree l.parts))
    ≡ bad_range_in (module_tree l.table.within.now) true (join_all (map target_tree (drop l.part-index l.parts)))
