use Rattle.std.proofs.Common.{map, take}
use Rattle.eq_verilog.specs.Trees.{item_tree}
use Rattle.eq_analysis.specs.Declaring.{AreFirsts}
use Rattle.eq_analysis.proofs.declaring.first_declarations.Given as goal

abbrev pub invariant-loop-item : goal.invariant-loop-item
invariant-loop-item l = AreFirsts l.class (map item_tree (take l.item-index l.items)) l.names l.found.items
