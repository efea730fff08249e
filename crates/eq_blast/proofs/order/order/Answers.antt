use Rattle.std.proofs.Common.{List, subst}
use Rattle.eq_bits.specs.declared.node.Node.{Node}
use Rattle.eq_net.specs.Whole.{parts_of}
use Rattle.eq_blast.specs.inner.Sorting.{IsSorted}
use Rattle.eq_blast.proofs.Followed.{order_blasted}
use Rattle.eq_blast.proofs.order.order.Goals as goal

pub returns-clause-ok : goal.returns-clause-ok
returns-clause-ok c =
    let net = parts_of c.args.net.now in
    let placing = c.in_ok-placing.placing in
    let P : List Node → Type 0 = λ ns. IsSorted ns placing.places.items placing.builder in
    order_blasted c.graph.result net c.args.wired.now.nodes c.args.wired.now.drives c.in_ok-plan.plan.items
    placing.places.items placing.builder c.bits.result c.requires.wired c.in_ok-plan.ensures
    (c.net_is_design.ensures net c.args.net.now.is_net).drivers (subst P c.deref.ensures.value c.in_ok-placing.ensures)
    c.bits.ensures c.graph.ensures.nodes c.graph.ensures.bits
