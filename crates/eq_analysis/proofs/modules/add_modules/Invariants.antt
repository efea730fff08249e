use Rattle.std.proofs.Common.{◌≡◌, ◌++◌, map, take}
use Rattle.eq_verilog.specs.Trees.{module_tree}
use Rattle.eq_analysis.proofs.modules.add_modules.Given as goal

abbrev pub invariant-loop-module : goal.invariant-loop-module
invariant-loop-module l = map (λ m. module_tree m.now) l.all.items
    ≡ map (λ m. module_tree m.now) l.fn.all.items ++ map module_tree (take l.module-index l.more)
