use Rattle.std.proofs.Common.{sym}
use Rattle.eq_analysis.proofs.DeclaredLemmas.{firsts_more}
use Rattle.eq_analysis.proofs.declaring.first_declarations.Goals as goal

pub loop-item-preserved : goal.loop-item-preserved
loop-item-preserved c =
    firsts_more c.args.class c.args.items.now c.loop-item.item-index c.item-item.result c.item-item.result
    c.loop-item.names c.add_item.new.names c.loop-item.found.items c.add_item.new.found.items c.loop-item-test.true
    (sym c.item-item.is) c.loop-item.invariant c.in_ok-add_item.ensures.same c.in_ok-add_item.ensures.found
