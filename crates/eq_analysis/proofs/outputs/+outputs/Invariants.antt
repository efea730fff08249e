use Rattle.std.proofs.Common.{None, take, map}
use Rattle.eq_verilog.specs.Trees.{expr_tree, join_all}
use Rattle.eq_verilog.specs.TargetRefusals.{leaves}
use Rattle.eq_analysis.specs.declared.targets.Right.TheVariants.{Driven}
use Rattle.eq_analysis.specs.Tabling.{tree_at}
use Rattle.eq_analysis.specs.inner.Targeting.{AreThrough}
use Rattle.eq_analysis.proofs.outputs.+outputs.Given as goal

abbrev pub invariant-in_outputs-loop-part : goal.invariant-in_outputs-loop-part
invariant-in_outputs-loop-part l =
    AreThrough (tree_at l.table) Driven (leaves (join_all (map expr_tree (take l.part-index l.parts))))
    l.fn.marks l.marks None
