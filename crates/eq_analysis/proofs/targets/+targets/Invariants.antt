use Rattle.std.proofs.Common.{None, take, map}
use Rattle.eq_verilog.specs.Trees.{target_tree, join_all}
use Rattle.eq_verilog.specs.TargetRefusals.{leaves}
use Rattle.eq_analysis.specs.Tabling.{tree_at}
use Rattle.eq_analysis.specs.inner.Targeting.{AreThrough}
use Rattle.eq_analysis.proofs.targets.+targets.Given as goal

abbrev pub invariant-in_targets-loop-part : goal.invariant-in_targets-loop-part
invariant-in_targets-loop-part l =
    AreThrough (tree_at l.table) l.right (leaves (join_all (map target_tree (take l.part-index l.parts))))
    l.fn.marks l.marks None
