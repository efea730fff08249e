use Rattle.std.proofs.Common.{map, take}
use Rattle.eq_net.specs.Net.{bits_of}
use Rattle.eq_verilog.specs.Trees.{item_tree}
use Rattle.eq_analysis.specs.Finding.{scope_of}
use Rattle.eq_sequential.specs.inner.Happening.{AddsEvents}
use Rattle.eq_sequential.specs.inner.Processing.{processes_in}
use Rattle.eq_sequential.proofs.events.add_module.Given as goal

abbrev pub invariant-loop-item : goal.invariant-loop-item
invariant-loop-item l =
    AddsEvents (bits_of l.nets) l.fn.events.items l.events.items
    (processes_in (scope_of l.nets l.names l.from) (map item_tree (take l.item-index l.items)))
