use Rattle.std.proofs.Common.{ℕ, ◌+◌, ◌*◌}
use Rattle.eq_verilog.specs.Trees.{stmt_tree}
use Rattle.eq_verilog.specs.Nets.{module_scope}
use Rattle.eq_verilog.specs.Costs.{stmt_cost}
use Rattle.eq_analysis.specs.Tabling.{tree_at}
use Rattle.eq_cost.proofs.Running.{IsRunning}
use Rattle.eq_cost.proofs.statements.+stmts.Given as goal

abbrev pub invariant-block_line-loop-stmt : goal.invariant-block_line-loop-stmt
invariant-block_line-loop-stmt l =
    (n : ℕ) → IsRunning (λ x. stmt_cost (module_scope (tree_at l.table)) n (stmt_tree x)) l.all l.stmt-index
    (l.line.slope * n + l.line.base)
