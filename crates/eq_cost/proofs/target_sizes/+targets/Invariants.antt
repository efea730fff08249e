use Rattle.eq_verilog.specs.Trees.{target_tree}
use Rattle.eq_verilog.specs.Sizes.{own}
use Rattle.eq_verilog.specs.Nets.{module_scope}
use Rattle.eq_analysis.specs.Tabling.{tree_at}
use Rattle.eq_cost.proofs.Running.{IsRunning}
use Rattle.eq_cost.proofs.target_sizes.+targets.Given as goal

abbrev pub invariant-targets_size-loop-part : goal.invariant-targets_size-loop-part
invariant-targets_size-loop-part l =
    IsRunning (λ x. own (module_scope (tree_at l.table)) (target_tree x)) l.parts l.part-index l.total
