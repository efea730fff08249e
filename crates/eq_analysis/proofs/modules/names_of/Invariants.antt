use Rattle.std.proofs.Common.{◌≡◌, map, take}
use Rattle.eq_verilog.specs.Trees.{module_tree}
use Rattle.eq_verilog.specs.Hierarchy.{module_names}
use Rattle.eq_analysis.proofs.modules.names_of.Given as goal

abbrev pub invariant-loop-module : goal.invariant-loop-module
invariant-loop-module l =
    map (λ n. n.now) l.names.items ≡ module_names (map (λ m. module_tree m.now) (take l.module-index l.modules))
