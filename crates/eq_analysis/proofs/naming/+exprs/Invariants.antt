use Rattle.std.proofs.Common.{◌≡◌, drop, map}
use Rattle.eq_verilog.specs.Trees.{expr_tree, join_all}
use Rattle.eq_verilog.specs.Declarations.{names_in}
use Rattle.eq_analysis.specs.Naming.{with_names}
use Rattle.eq_analysis.proofs.naming.+exprs.Given as goal

abbrev pub invariant-add_exprs-loop-part : goal.invariant-add_exprs-loop-part
invariant-add_exprs-loop-part l =
    with_names l.found.table (names_in (join_all (map expr_tree (drop l.part-index l.parts))))
    ≡ with_names l.fn.found.table (names_in (join_all (map expr_tree l.parts)))
