use Rattle.std.proofs.Common.{List, map, take, filter_map, sym, subst}
use Rattle.eq_verilog.specs.Trees.{Name, item_tree}
use Rattle.eq_verilog.specs.ModuleRefusals as spec
use Rattle.eq_analysis.specs.inner.Duplicates.{AreCounted}
use Rattle.eq_analysis.proofs.DuplicateLemmas.{owns_more}
use Rattle.eq_analysis.proofs.duplicates.own_names.Goals as goal

pub loop-item-preserved : goal.loop-item-preserved
loop-item-preserved c =
    subst (λ (ns : List Name). AreCounted ns c.add_own_of.new.once c.add_own_of.new.twice)
    (sym (owns_more c.args.items.now c.loop-item.item-index c.item-item.result c.item-item.result
    c.loop-item-test.true (sym c.item-item.is)))
    (c.in_ok-add_own_of.ensures
    (filter_map spec.own_name (map item_tree (take c.loop-item.item-index c.args.items.now)))
    c.loop-item.invariant)
