use Rattle.std.proofs.Common.{ℕ, ◌≤◌, ◌++◌, List, drop, length, map}
use Rattle.eq_verilog.specs.Trees.{join_all, target_tree}
use Rattle.eq_verilog.specs.Nets.{module_scope}
use Rattle.eq_verilog.specs.Costs.{bits_in}
use Rattle.eq_analysis.specs.Tabling.{tree_at}
use Rattle.eq_cost.specs.inner.Seeing.{IsCounted}
use Rattle.eq_cost.proofs.seen.+targets.Given as goal

abbrev pub invariant-see_targets-loop-place : goal.invariant-see_targets-loop-place
invariant-see_targets-loop-place l =
    record {
      within : l.place ≤ length l.parts;
      counted : (bits : List ℕ) → IsCounted l.fn.seen bits → IsCounted l.seen
          (bits_in (module_scope (tree_at l.table)) (join_all (map target_tree (drop l.place l.parts))) ++ bits);
    }

abbrev pub decreases-see_targets-loop-place : goal.decreases-see_targets-loop-place
decreases-see_targets-loop-place l = l.place
