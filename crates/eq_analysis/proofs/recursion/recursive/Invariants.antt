use Rattle.std.proofs.Common.{◌≡◌, drop, map}
use Rattle.eq_verilog.specs.Trees.{module_tree}
use Rattle.eq_verilog.specs.Firsts.{first_found}
use Rattle.eq_verilog.specs.ModuleRefusals as spec
use Rattle.eq_analysis.proofs.recursion.recursive.Given as goal

abbrev pub invariant-loop-module : goal.invariant-loop-module
invariant-loop-module l =
    first_found (spec.recursive (map (λ m. module_tree m.now) l.modules)) (map (λ m. module_tree m.now) l.reached)
    ≡ first_found (spec.recursive (map (λ m. module_tree m.now) l.modules))
    (map (λ m. module_tree m.now) (drop l.module-index l.reached))
