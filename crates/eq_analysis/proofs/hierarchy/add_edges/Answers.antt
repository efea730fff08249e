use Rattle.std.proofs.Common.{sym, arith}
use Rattle.eq_analysis.proofs.EdgeLemmas.{adding_all, adding_more}
use Rattle.eq_analysis.proofs.hierarchy.add_edges.Goals as goal

pub loop-item-preserved : goal.loop-item-preserved
loop-item-preserved c =
    adding_more c.args.names.now c.args.from c.args.items.now c.args.edges.now.items c.loop-item.edges.items
    c.add_edge.new.edges.items c.loop-item.item-index c.item-item.result c.loop-item-test.true (sym c.item-item.is)
    c.loop-item.invariant c.in_ok-add_edge.ensures.kept c.in_ok-add_edge.ensures.there

pub returns-clause-there : goal.returns-clause-there
returns-clause-there c =
    let end = c.loop-item-test.false in
    adding_all c.args.names.now c.args.from c.args.items.now c.args.edges.now.items c.loop-item.edges.items
    c.loop-item.item-index (omega (arith, end)) c.loop-item.invariant
