use Rattle.std.proofs.Common.{◌≡◌, drop, map}
use Rattle.eq_verilog.specs.Trees.{target_tree, join_all}
use Rattle.eq_verilog.specs.Declarations.{names_in}
use Rattle.eq_analysis.specs.Naming.{with_names}
use Rattle.eq_analysis.proofs.naming.+targets.Given as goal

abbrev pub invariant-add_targets-loop-part : goal.invariant-add_targets-loop-part
invariant-add_targets-loop-part l =
    with_names l.found.table (names_in (join_all (map target_tree (drop l.part-index l.parts))))
    ≡ with_names l.fn.found.table (names_in (join_all (map target_tree l.parts)))
