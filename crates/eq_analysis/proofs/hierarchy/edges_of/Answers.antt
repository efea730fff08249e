use Rattle.std.proofs.Common.{List, map, subst, arith}
use Rattle.eq_vparse.specs.declared.tree.Item.{Item}
use Rattle.eq_verilog.specs.Trees.{item_tree}
use Rattle.eq_analysis.specs.inner.Climbing.{AreJoined}
use Rattle.eq_analysis.proofs.EdgeLemmas.{edges_all, edges_more}
use Rattle.eq_analysis.proofs.hierarchy.edges_of.Goals as goal

pub loop-place-preserved : goal.loop-place-preserved
loop-place-preserved c =
    edges_more c.loop-place.edges.items c.add_edges.new.edges.items c.args.names.now c.args.modules.now
    c.loop-place.place c.index-modules-place.result c.loop-place-test.true c.loop-place.invariant
    c.in_ok-add_edges.ensures.kept
    (subst (λ (is : List Item). AreJoined c.add_edges.new.edges.items c.args.names.now c.loop-place.place
    (map item_tree is)) c.as_slice.ensures c.in_ok-add_edges.ensures.there)

pub returns : goal.returns
returns c =
    let end = c.loop-place-test.false in
    edges_all c.loop-place.edges.items c.args.names.now c.args.modules.now c.loop-place.place (omega (arith, end))
    c.loop-place.invariant
