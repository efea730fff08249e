use Rattle.eq_verilog.specs.Trees.{expr_tree}
use Rattle.eq_verilog.specs.Sizes.{own}
use Rattle.eq_verilog.specs.Nets.{module_scope}
use Rattle.eq_verilog.specs.Costs.{cost}
use Rattle.eq_analysis.specs.Tabling.{tree_at}
use Rattle.eq_cost.proofs.Running.{IsRunning}
use Rattle.eq_cost.proofs.expressions.+exprs.Given as goal

abbrev pub invariant-costed_all-loop-part : goal.invariant-costed_all-loop-part
invariant-costed_all-loop-part l =
    record {
      sizes : IsRunning (λ x. own (module_scope (tree_at l.table)) (expr_tree x)) l.parts l.part-index l.size;
      costs : IsRunning (λ x. cost (module_scope (tree_at l.table)) (expr_tree x)
          (own (module_scope (tree_at l.table)) (expr_tree x))) l.parts l.part-index l.total;
    }
