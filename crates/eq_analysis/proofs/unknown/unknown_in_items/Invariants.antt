use Rattle.std.proofs.Common.{◌≡◌, drop, map}
use Rattle.eq_verilog.specs.Trees.{module_tree, item_tree}
use Rattle.eq_verilog.specs.Firsts.{first_found}
use Rattle.eq_analysis.specs.inner.Unknowing.{unknown_item}
use Rattle.eq_analysis.proofs.unknown.unknown_in_items.Given as goal

abbrev pub invariant-loop-item : goal.invariant-loop-item
invariant-loop-item l =
    first_found (λ i. unknown_item (map (λ m. module_tree m.now) l.modules) (item_tree i)) l.items
    ≡ first_found (λ i. unknown_item (map (λ m. module_tree m.now) l.modules) (item_tree i)) (drop l.item-index l.items)
