use Rattle.std.proofs.Common.{◌≡◌, drop, map}
use Rattle.std.specs.Prelude.{flat_map}
use Rattle.eq_verilog.specs.Trees.{stmt_tree, in_sequence}
use Rattle.eq_verilog.specs.Declarations.{names_of_whole, wholes_of_stmt}
use Rattle.eq_analysis.specs.Naming.{with_names}
use Rattle.eq_analysis.proofs.naming.+stmts.Given as goal

abbrev pub invariant-add_stmts-loop-stmt : goal.invariant-add_stmts-loop-stmt
invariant-add_stmts-loop-stmt l =
    with_names l.found.table
    (flat_map names_of_whole (wholes_of_stmt (in_sequence (map stmt_tree (drop l.stmt-index l.all)))))
    ≡ with_names l.fn.found.table (flat_map names_of_whole (wholes_of_stmt (in_sequence (map stmt_tree l.all))))
