use Rattle.std.proofs.Common.{ℕ, ◌≤◌, ◌++◌, List, drop, length, map}
use Rattle.eq_verilog.specs.Trees.{in_sequence, stmt_tree}
use Rattle.eq_verilog.specs.Nets.{module_scope}
use Rattle.eq_verilog.specs.Costs.{bits_set}
use Rattle.eq_analysis.specs.Tabling.{tree_at}
use Rattle.eq_cost.specs.inner.Seeing.{IsCounted}
use Rattle.eq_cost.proofs.seen.+stmts.Given as goal

abbrev pub invariant-see_stmts-loop-place : goal.invariant-see_stmts-loop-place
invariant-see_stmts-loop-place l =
    record {
      within : l.place ≤ length l.all;
      counted : (bits : List ℕ) → IsCounted l.fn.seen bits → IsCounted l.seen
          (bits_set (module_scope (tree_at l.table)) (in_sequence (map stmt_tree (drop l.place l.all))) ++ bits);
    }

abbrev pub decreases-see_stmts-loop-place : goal.decreases-see_stmts-loop-place
decreases-see_stmts-loop-place l = l.place
