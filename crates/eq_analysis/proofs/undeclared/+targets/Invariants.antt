use Rattle.std.proofs.Common.{◌≡◌, drop, map}
use Rattle.eq_verilog.specs.Trees.{module_tree, target_tree, join_all}
use Rattle.eq_analysis.specs.inner.Mentioning.{first_name, undeclared}
use Rattle.eq_analysis.proofs.undeclared.+targets.Given as goal

abbrev pub invariant-undeclared_in_targets-loop-part : goal.invariant-undeclared_in_targets-loop-part
invariant-undeclared_in_targets-loop-part l =
    first_name (undeclared (module_tree l.table.within.now)) (join_all (map target_tree l.parts))
    ≡ first_name (undeclared (module_tree l.table.within.now))
    (join_all (map target_tree (drop l.part-index l.parts)))
