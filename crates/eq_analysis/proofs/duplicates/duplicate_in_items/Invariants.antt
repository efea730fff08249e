use Rattle.std.proofs.Common.{drop, map}
use Rattle.eq_verilog.specs.Trees.{item_tree, module_tree}
use Rattle.eq_analysis.proofs.DuplicateLemmas.{IsSoFar}
use Rattle.eq_analysis.proofs.duplicates.duplicate_in_items.Given as goal

abbrev pub invariant-loop-item : goal.invariant-loop-item
invariant-loop-item l =
    IsSoFar (module_tree l.table.within.now) (map item_tree l.items) (map item_tree (drop l.item-index l.items))
    l.directions l.others
