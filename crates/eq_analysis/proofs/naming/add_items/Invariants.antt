use Rattle.std.proofs.Common.{◌≡◌, map, take}
use Rattle.std.specs.Prelude.{flat_map}
use Rattle.eq_verilog.specs.Trees.{item_tree}
use Rattle.eq_verilog.specs.Declarations.{names_of_item}
use Rattle.eq_analysis.specs.Naming.{with_names}
use Rattle.eq_analysis.proofs.naming.add_items.Given as goal

abbrev pub invariant-loop-item : goal.invariant-loop-item
invariant-loop-item l = l.found.table ≡ with_names l.fn.found.table
    (flat_map names_of_item (map item_tree (take l.item-index l.items)))
