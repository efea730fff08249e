use Rattle.std.proofs.Common.{ℕ, ◌≤◌}
use Rattle.eq_net.specs.Meaning.{if_there}
use Rattle.eq_verilog.specs.Trees.{item_tree}
use Rattle.eq_verilog.specs.Hierarchy.{instance_in}
use Rattle.eq_analysis.specs.Tabling.{trees_at}
use Rattle.eq_cost.specs.inner.Valuing.{AreValued, inside_cost}
use Rattle.eq_cost.proofs.Running.{IsRunning}
use Rattle.eq_cost.proofs.values.values_of_items.Given as goal

abbrev pub invariant-loop-item : goal.invariant-loop-item
invariant-loop-item l =
    (k j : ℕ) → AreValued (trees_at l.tables) k l.values → k ≤ j →
    IsRunning (λ i. if_there 0 (inside_cost (trees_at l.tables) j) (instance_in (item_tree i))) l.items l.item-index
    l.total
