use Rattle.std.proofs.Common.{◌≡◌, drop, map}
use Rattle.eq_verilog.specs.Trees.{module_tree}
use Rattle.eq_verilog.specs.Declarations.{has}
use Rattle.eq_verilog.specs.Hierarchy.{module_names}
use Rattle.eq_analysis.proofs.recursion.is_among.Given as goal

abbrev pub invariant-loop-module : goal.invariant-loop-module
invariant-loop-module l =
    has (module_names (map (λ m. module_tree m.now) l.modules)) l.name
    ≡ has (module_names (map (λ m. module_tree m.now) (drop l.module-index l.modules))) l.name
