use Rattle.std.proofs.Common.{◌≡◌, drop, map}
use Rattle.eq_verilog.specs.Trees.{expr_tree, join_all}
use Rattle.eq_verilog.specs.TargetRefusals as targets
use Rattle.eq_analysis.proofs.outputs.+forms.Given as goal

abbrev pub invariant-are_targets-loop-part : goal.invariant-are_targets-loop-part
invariant-are_targets-loop-part l =
    targets.is_target (join_all (map expr_tree l.parts))
    ≡ targets.is_target (join_all (map expr_tree (drop l.part-index l.parts)))
