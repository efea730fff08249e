use Rattle.eq_net.specs.Tree.{trees_of}
use Rattle.eq_drivers.proofs.Later.{tell_later}
use Rattle.eq_drivers.proofs.Told.{all_told}
use Rattle.eq_drivers.proofs.wiring.drivers.Goals as goal

pub returns-clause-ok : goal.returns-clause-ok
returns-clause-ok c = λ f tell regs single.
    let nets = c.args.nets.now in
    let new = trees_of c.add_nets.new.words in
    let grown = c.in_ok-drivers.ensures.grows in
    all_told c.words_render.ensures.values c.words_render.ensures.reads c.words_render.ensures.copies nets new grown.words
    f c.args.slots.now c.args.flags.now
    (tell_later nets (trees_of c.args.words.now) new grown.kept f c.args.slots.now tell) regs single
    c.in_ok-drivers.drivers.items c.in_ok-drivers.ensures.size c.in_ok-drivers.ensures.chosen
