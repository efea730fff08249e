use Rattle.std.proofs.Common.{map, take}
use Rattle.std.specs.Prelude.{sum_by}
use Rattle.eq_net.specs.Tree.{trees_of}
use Rattle.eq_verilog.specs.Trees.{item_tree}
use Rattle.eq_analysis.specs.Finding.{scope_of}
use Rattle.eq_layout.specs.Spending.{process_cost}
use Rattle.eq_sequential.specs.inner.Processing.{processes_in, AddsProcesses}
use Rattle.eq_sequential.proofs.following.add_module.Given as goal

abbrev pub invariant-loop-item : goal.invariant-loop-item
invariant-loop-item l =
    AddsProcesses l.nets (trees_of l.fn.words) (trees_of l.words) l.fn.slots l.slots
    (processes_in (scope_of l.nets l.names l.from) (map item_tree (take l.item-index l.items)))
    (sum_by (process_cost (scope_of l.nets l.names l.from)) (map item_tree (take l.item-index l.items)))
