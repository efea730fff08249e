use Rattle.std.proofs.Common.{◌-◌, length, map}
use Rattle.eq_verilog.specs.Trees.{module_tree}
use Rattle.eq_flatten.specs.Paths.{links_from, top_path, IsWalk}
use Rattle.eq_flatten.proofs.paths.walk.Given as goal

abbrev pub invariant-loop-next : goal.invariant-loop-next
invariant-loop-next l =
    IsWalk (map (λ m. module_tree m.now) l.modules) (length l.modules - 1) (top_path (module_tree l.top.module.now))
    l.found l.stack.items

abbrev pub decreases-loop-next : goal.decreases-loop-next
decreases-loop-next l =
    length (links_from (map (λ m. module_tree m.now) l.modules) (length l.modules - 1)
    (top_path (module_tree l.top.module.now)))
    - length l.found.links.items
