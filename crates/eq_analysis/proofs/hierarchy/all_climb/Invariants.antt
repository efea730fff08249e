use Rattle.std.proofs.Common.{◌≡◌, drop, map}
use Rattle.std.specs.List.{list_all}
use Rattle.eq_verilog.specs.Trees.{item_tree}
use Rattle.eq_analysis.specs.inner.Climbing.{item_climbs}
use Rattle.eq_analysis.proofs.hierarchy.all_climb.Given as goal

abbrev pub invariant-loop-item : goal.invariant-loop-item
invariant-loop-item l =
    list_all (item_climbs l.numbers l.names l.least) (map item_tree l.items)
    ≡ list_all (item_climbs l.numbers l.names l.least) (map item_tree (drop l.item-index l.items))
