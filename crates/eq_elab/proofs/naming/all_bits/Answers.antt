use Rattle.std.proofs.Common.{arith}
use Rattle.eq_elab.proofs.BitNames.{bits_all, bits_none, nets_few, width_few}
use Rattle.eq_elab.proofs.naming.all_bits.Goals as goal

pub loop-net-init : goal.loop-net-init
loop-net-init c = bits_none c.args.nets.now c.new-names.result.items c.new-names.ensures.items
    (c.bits_stand_by_nets.ensures.first c.args.nets.now)

pub overflow_cast-net : goal.overflow_cast-net
overflow_cast-net c =
    let few = nets_few c.args.nets.now in
    let bound = c.requires.few in
    let lt = c.loop-net-test.true in
    let end = c.loop-net.auto.net-end in
    omega (arith, few, bound, lt, end)

pub overflow_cast-width : goal.overflow_cast-width
overflow_cast-width c =
    let w = c.width.ensures in
    let few = width_few c.args.nets.now c.loop-net.net c.index-nets-net.result c.loop-net-test.true
    c.index-nets-net.is in
    let bound = c.requires.few in
    omega (arith, few, bound, w)

pub returns : goal.returns
returns c =
    let low = c.loop-net-test.false in
    let high = c.loop-net.auto.net-end in
    bits_all c.args.nets.now c.loop-net.names.items c.loop-net.net (omega (arith, low, high)) c.loop-net.invariant
