use Rattle.std.proofs.Common.{map}
use Rattle.eq_verilog.specs.Trees.{module_tree}
use Rattle.eq_flatten.specs.Paths.{AreBegun}
use Rattle.eq_flatten.proofs.paths.add_items.Given as goal

abbrev pub invariant-loop-place : goal.invariant-loop-place
invariant-loop-place l =
    AreBegun (map (λ m. module_tree m.now) l.modules) l.items l.within l.left l.fn.stack.items l.place l.stack.items

abbrev pub decreases-loop-place : goal.decreases-loop-place
decreases-loop-place l = l.place
