use Rattle.std.proofs.Common.{◌≡◌, map, take}
use Rattle.std.specs.Prelude.{flat_map}
use Rattle.eq_verilog.specs.Trees.{expr_tree}
use Rattle.eq_verilog.specs.Declarations.{expression, names_of_whole}
use Rattle.eq_analysis.specs.Naming.{with_names}
use Rattle.eq_analysis.proofs.naming.add_terms.Given as goal

abbrev pub invariant-loop-term : goal.invariant-loop-term
invariant-loop-term l = l.found.table ≡ with_names l.fn.found.table
    (flat_map names_of_whole (map expression (map expr_tree (take l.term-index l.terms))))
