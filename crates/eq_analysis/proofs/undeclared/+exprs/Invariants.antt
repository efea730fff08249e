use Rattle.std.proofs.Common.{◌≡◌, drop, map}
use Rattle.eq_verilog.specs.Trees.{module_tree, expr_tree, join_all}
use Rattle.eq_analysis.specs.inner.Mentioning.{first_name, undeclared}
use Rattle.eq_analysis.proofs.undeclared.+exprs.Given as goal

abbrev pub invariant-undeclared_in_exprs-loop-part : goal.invariant-undeclared_in_exprs-loop-part
invariant-undeclared_in_exprs-loop-part l =
    first_name (undeclared (module_tree l.table.within.now)) (join_all (map expr_tree l.parts))
    ≡ first_name (undeclared (module_tree l.table.within.now))
    (join_all (map expr_tree (drop l.part-index l.parts)))
