use Rattle.std.proofs.Common.{map, take, filter_map}
use Rattle.eq_verilog.specs.Trees.{item_tree}
use Rattle.eq_verilog.specs.ModuleRefusals as spec
use Rattle.eq_analysis.specs.inner.Duplicates.{AreCounted}
use Rattle.eq_analysis.proofs.duplicates.own_names.Given as goal

abbrev pub invariant-loop-item : goal.invariant-loop-item
invariant-loop-item l =
    AreCounted (filter_map spec.own_name (map item_tree (take l.item-index l.items))) l.once l.twice
