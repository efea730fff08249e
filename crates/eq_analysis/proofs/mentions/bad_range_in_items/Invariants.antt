use Rattle.std.proofs.Common.{◌≡◌, drop, map}
use Rattle.eq_verilog.specs.Trees.{module_tree, item_tree}
use Rattle.eq_verilog.specs.Firsts.{first_found}
use Rattle.eq_verilog.specs.ModuleRefusals as spec
use Rattle.eq_analysis.proofs.mentions.bad_range_in_items.Given as goal

abbrev pub invariant-loop-item : goal.invariant-loop-item
invariant-loop-item l =
    first_found (spec.bad_range_at (module_tree l.table.within.now)) (map item_tree l.items)
    ≡ first_found (spec.bad_range_at (module_tree l.table.within.now)) (map item_tree (drop l.item-index l.items))
