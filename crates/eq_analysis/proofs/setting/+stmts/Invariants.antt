use Rattle.std.proofs.Common.{◌≡◌, drop, map}
use Rattle.eq_verilog.specs.Trees.{stmt_tree, in_sequence}
use Rattle.eq_verilog.specs.TargetRefusals as spec
use Rattle.eq_analysis.specs.Tabling.{tree_at}
use Rattle.eq_analysis.proofs.setting.+stmts.Given as goal

abbrev pub invariant-bad_sets-loop-stmt : goal.invariant-bad_sets-loop-stmt
invariant-bad_sets-loop-stmt l =
    spec.bad_set (tree_at l.table) (in_sequence (map stmt_tree l.all))
    ≡ spec.bad_set (tree_at l.table) (in_sequence (map stmt_tree (drop l.stmt-index l.all)))
