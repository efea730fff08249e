use Rattle.std.proofs.Common.{◌≡◌, drop, map}
use Rattle.eq_verilog.specs.Trees.{module_tree}
use Rattle.eq_verilog.specs.Firsts.{first_found}
use Rattle.eq_verilog.specs.TargetRefusals as spec
use Rattle.eq_analysis.specs.Tabling.{trees_at}
use Rattle.eq_analysis.proofs.faults.first_bad_target.Given as goal

abbrev pub invariant-loop-module : goal.invariant-loop-module
invariant-loop-module l =
    first_found (spec.bad_target (trees_at l.tables)) (map (λ m. module_tree m.now) l.order)
    ≡ first_found (spec.bad_target (trees_at l.tables)) (map (λ m. module_tree m.now) (drop l.module-index l.order))
