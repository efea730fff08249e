use Rattle.std.proofs.Common.{◌≡◌, ℕ, length, arith, ap, ◌∙◌}
use Rattle.eq_net.specs.Net.{bits_of, offset}
use Rattle.eq_net.proofs.Offsets.{offset_next}
use Rattle.eq_assembly.proofs.ClockNet.{last_offset, no_offset, one_bit}
use Rattle.eq_assembly.proofs.clocking.net_of_bit.Goals as goal

pub loop-place-init : goal.loop-place-init
loop-place-init c =
    let none = no_offset c.args.nets.now in
    let is = c.from-left.ensures in
    record { at = omega (arith, none, is); few = omega (arith, is) }

pub loop-place-preserved : goal.loop-place-preserved
loop-place-preserved c =
    let net = c.index-nets-place.result in
    let step = offset_next c.args.nets.now c.loop-place.place net c.loop-place-test.true c.index-nets-place.is in
    let some = one_bit net in
    let width = c.width-width.ensures in
    let more = c.if-left-width.false in
    let at = c.loop-place.invariant.at in
    let few = c.loop-place.invariant.few in
    record { at = omega (arith, step, width, more, at); few = omega (arith, some, width, more, few) }

pub unreachable-requires : goal.unreachable-requires
unreachable-requires c =
    let low = c.loop-place-test.false in
    let high = c.loop-place.auto.place-end in
    let same : c.loop-place.place ≡ length c.args.nets.now = omega (arith, low, high) in
    let last : offset c.args.nets.now c.loop-place.place ≡ bits_of c.args.nets.now =
    ap (λ (k : ℕ). offset c.args.nets.now k) same ∙ last_offset c.args.nets.now in
    let at = c.loop-place.invariant.at in
    let there = c.requires.there in
    omega (arith, last, at, there)
