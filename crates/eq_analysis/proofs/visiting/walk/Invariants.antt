use Rattle.std.proofs.Common.{map}
use Rattle.eq_verilog.specs.Trees.{module_tree}
use Rattle.eq_analysis.specs.inner.Visiting.{IsWalk}
use Rattle.eq_analysis.proofs.VisitLemmas.{unseen}
use Rattle.eq_analysis.proofs.visiting.walk.Given as goal

abbrev pub invariant-loop-entered : goal.invariant-loop-entered
invariant-loop-entered l =
    IsWalk (map (λ m. module_tree m.now) l.modules) l.fn.stack.items l.seen (map (λ m. module_tree m.now) l.order.items)
    l.stack.items

abbrev pub decreases-loop-entered : goal.decreases-loop-entered
decreases-loop-entered l = unseen l.seen (map (λ m. module_tree m.now) l.modules)
