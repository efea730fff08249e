use Rattle.std.proofs.Common.{◌≡◌, take, map}
use Rattle.eq_verilog.specs.Trees.{module_tree}
use Rattle.eq_analysis.specs.Tabling.{trees_at}
use Rattle.eq_analysis.proofs.tabled.all_tables.Given as goal

abbrev pub invariant-loop-module : goal.invariant-loop-module
invariant-loop-module l =
    trees_at l.tables.items ≡ map (λ m. module_tree m.now) (take l.module-index l.modules)
