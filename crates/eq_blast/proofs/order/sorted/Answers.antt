use Rattle.eq_net.specs.Net.{system_of}
use Rattle.eq_net.specs.Whole.{parts_of}
use Rattle.eq_blast.proofs.Grounded.{all_in}
use Rattle.eq_blast.proofs.Plans.{within}
use Rattle.eq_blast.proofs.order.sorted.Goals as goal

pub sort-requires-clause-within : goal.sort-requires-clause-within
sort-requires-clause-within c = within (parts_of c.args.net.now) c.args.wired.now.nodes c.args.wired.now.drives
    c.args.plan.now c.requires.wired c.requires.plan

pub sort-requires-clause-grounded : goal.sort-requires-clause-grounded
sort-requires-clause-grounded c =
    let net = parts_of c.args.net.now in
    let sound = (c.net_is_design.ensures net c.args.net.now.is_net).drivers in
    let ranks = c.heights.ensures (system_of net) sound c.args.net.now.is_net.loop_free in
    all_in net c.args.wired.now.nodes c.args.wired.now.drives c.args.plan.now c.requires.wired c.requires.plan sound
    ranks.0 ranks.1
