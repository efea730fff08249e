use Rattle.std.proofs.Common.{map, take}
use Rattle.eq_verilog.specs.Trees.{item_tree}
use Rattle.eq_analysis.specs.Finding.{scope_of}
use Rattle.eq_flatten.specs.Beginning.{initials_in, AddsInitials}
use Rattle.eq_flatten.proofs.initials.add_module.Given as goal

abbrev pub invariant-loop-item : goal.invariant-loop-item
invariant-loop-item l =
    AddsInitials l.fn.constants.items l.constants.items l.fn.slots l.slots
    (initials_in (scope_of l.nets l.names l.from) (map item_tree (take l.item-index l.items)))
