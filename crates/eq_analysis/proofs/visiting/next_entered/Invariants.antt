use Rattle.std.proofs.Common.{◌≡◌, List, map}
use Rattle.eq_verilog.specs.Trees.{ModuleTree, module_tree}
use Rattle.eq_verilog.specs.Hierarchy.{module_names}
use Rattle.eq_analysis.specs.inner.Visiting.{after}
use Rattle.eq_analysis.proofs.visiting.next_entered.Given as goal

abbrev pub invariant-loop-visit : goal.invariant-loop-visit
invariant-loop-visit l = (order : List ModuleTree) → l.seen ≡ module_names order →
    after (map (λ m. module_tree m.now) l.modules) order l.fn.stack.items
    ≡ after (map (λ m. module_tree m.now) l.modules) order l.stack.items

abbrev pub decreases-loop-visit : goal.decreases-loop-visit
decreases-loop-visit l = goal.left-loop-visit l
