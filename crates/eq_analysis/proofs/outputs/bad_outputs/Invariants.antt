use Rattle.std.proofs.Common.{◌≡◌, drop, map}
use Rattle.eq_verilog.specs.Trees.{expr_tree}
use Rattle.eq_verilog.specs.Firsts.{first_found}
use Rattle.eq_verilog.specs.TargetRefusals as targets
use Rattle.eq_analysis.specs.Tabling.{tree_at}
use Rattle.eq_analysis.proofs.outputs.bad_outputs.Given as goal

abbrev pub invariant-loop-output : goal.invariant-loop-output
invariant-loop-output l =
    first_found (targets.bad_output (tree_at l.table)) (map expr_tree l.outputs)
    ≡ first_found (targets.bad_output (tree_at l.table)) (map expr_tree (drop l.output-index l.outputs))
