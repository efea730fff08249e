use Rattle.std.proofs.Common.{◌≡◌, ℕ, ◌+◌, ◌<◌, List, [], ◌∷◌, length, length-append, arith, sym, ap, subst, ◌∙◌}
use Rattle.eq_net.specs.declared.types.Driver.{Driver}
use Rattle.eq_net.specs.declared.types.NetInfo.{NetInfo}
use Rattle.eq_net.specs.Net.{offset}
use Rattle.eq_net.specs.Nets.{side_of, width_of}
use Rattle.eq_net.specs.Tree.{trees_of}
use Rattle.eq_verilog.specs.Declarations.{comes_in}
use Rattle.eq_drivers.proofs.Grown.{chosen_later, chosen_more, grows_twice}
use Rattle.eq_drivers.proofs.Placed.{few_nets, inside_net, outside_told, same_net}
use Rattle.eq_drivers.proofs.wiring.add_net.Goals as goal

pub overflow_cast-name : goal.overflow_cast-name
overflow_cast-name c =
    let few = few_nets c.args.nets.now in
    let there = c.requires.there in
    let bound = c.requires.few in
    omega (arith, few, there, bound)

pub overflow_cast-name-in-loop-bit : goal.overflow_cast-name-in-loop-bit
overflow_cast-name-in-loop-bit c =
    let nets = c.args.nets.now in
    let inside = inside_net nets c.args.net c.index-nets-net-2.result c.requires.there c.index-nets-net-2.is
    c.loop-bit.bit c.width-bit-end.result c.width-bit-end.ensures c.loop-bit-test.true in
    let below = c.bits_stand_by_nets.ensures.there nets c.args.net c.loop-bit.bit c.requires.there inside in
    let bound = c.requires.few in
    omega (arith, below, bound)

pub choose_at-requires-clause-outside : goal.choose_at-requires-clause-outside
choose_at-requires-clause-outside c =
    let at = c.len-at.ensures ∙ c.loop-bit.drivers.ok.0 ∙ c.loop-bit.invariant.size in
    let x = c.index-nets-net.result in
    let one = same_net c.args.nets.now c.args.net x c.requires.there c.index-nets-net.is in
    let other = same_net c.args.nets.now c.args.net c.index-nets-net-2.result c.requires.there c.index-nets-net-2.is in
    c.comes_in-outside.ensures
    ∙ ap (λ (n : NetInfo). comes_in (side_of n.dir)) (sym c.index-nets-net.is)
    ∙ outside_told c.args.nets.now c.args.net x c.requires.there c.index-nets-net.is c.loop-bit.bit c.len-at.result
    (subst (λ (n : NetInfo). c.loop-bit.bit < width_of n) (sym other ∙ one)
    (subst (λ (w : ℕ). c.loop-bit.bit < w) c.width-bit-end.ensures c.loop-bit-test.true)) at

pub choose_at-requires-clause-flags : goal.choose_at-requires-clause-flags
choose_at-requires-clause-flags c =
    let nets = c.args.nets.now in
    let k = c.args.net in
    let j = c.loop-bit.bit in
    let x = c.index-nets-net-2.result in
    let at = c.len-at.ensures ∙ c.loop-bit.drivers.ok.0 ∙ c.loop-bit.invariant.size in
    let inside = inside_net nets k x c.requires.there c.index-nets-net-2.is j c.width-bit-end.result
    c.width-bit-end.ensures c.loop-bit-test.true in
    let below = c.bits_stand_by_nets.ensures.there nets k j c.requires.there inside in
    let size = c.requires.flags in
    omega (arith, at, below, size)

pub choose_at-requires-clause-driven : goal.choose_at-requires-clause-driven
choose_at-requires-clause-driven c =
    let nets = c.args.nets.now in
    let k = c.args.net in
    let j = c.loop-bit.bit in
    let x = c.index-nets-net-2.result in
    let at = c.len-at.ensures ∙ c.loop-bit.drivers.ok.0 ∙ c.loop-bit.invariant.size in
    let inside = inside_net nets k x c.requires.there c.index-nets-net-2.is j c.width-bit-end.result
    c.width-bit-end.ensures c.loop-bit-test.true in
    let below = c.bits_stand_by_nets.ensures.there nets k j c.requires.there inside in
    let size = c.requires.driven in
    omega (arith, at, below, size)

pub choose_at-requires-clause-followed : goal.choose_at-requires-clause-followed
choose_at-requires-clause-followed c =
    let nets = c.args.nets.now in
    let k = c.args.net in
    let j = c.loop-bit.bit in
    let x = c.index-nets-net-2.result in
    let at = c.len-at.ensures ∙ c.loop-bit.drivers.ok.0 ∙ c.loop-bit.invariant.size in
    let inside = inside_net nets k x c.requires.there c.index-nets-net-2.is j c.width-bit-end.result
    c.width-bit-end.ensures c.loop-bit-test.true in
    let below = c.bits_stand_by_nets.ensures.there nets k j c.requires.there inside in
    let size = c.requires.followed in
    omega (arith, at, below, size)

pub choose_at-requires-clause-begun : goal.choose_at-requires-clause-begun
choose_at-requires-clause-begun c =
    let nets = c.args.nets.now in
    let k = c.args.net in
    let j = c.loop-bit.bit in
    let x = c.index-nets-net-2.result in
    let at = c.len-at.ensures ∙ c.loop-bit.drivers.ok.0 ∙ c.loop-bit.invariant.size in
    let inside = inside_net nets k x c.requires.there c.index-nets-net-2.is j c.width-bit-end.result
    c.width-bit-end.ensures c.loop-bit-test.true in
    let below = c.bits_stand_by_nets.ensures.there nets k j c.requires.there inside in
    let size = c.requires.begun in
    omega (arith, at, below, size)

pub loop-bit-preserved : goal.loop-bit-preserved
loop-bit-preserved c =
    let nets = c.args.nets.now in
    let old = trees_of c.args.words.now in
    let before = trees_of c.loop-bit.words in
    let after = trees_of c.choose_at.new.words in
    let ds = c.loop-bit.drivers.items in
    let d = c.in_ok-driver.driver in
    let size = c.loop-bit.invariant.size in
    let items = c.in_ok-push.ensures.items in
    let longer = ap (λ (xs : List Driver). length xs) items ∙ length-append ds (d ∷ []) in
    record {
      size = omega (arith, size, longer);
      grows = grows_twice nets old before after c.loop-bit.invariant.grows c.in_ok-driver.ensures.grows;
      chosen = chosen_more nets c.args.flags.now c.args.slots.now after ds c.push.new.self.items c.len-at.result d
          (chosen_later nets c.args.flags.now c.args.slots.now before after ds c.in_ok-driver.ensures.grows.kept
          c.loop-bit.invariant.chosen)
          (c.len-at.ensures ∙ c.loop-bit.drivers.ok.0) c.in_ok-driver.ensures.chosen items;
    }

pub returns-clause-size : goal.returns-clause-size
returns-clause-size c =
    let nets = c.args.nets.now in
    let low = c.loop-bit-test.false in
    let high = c.loop-bit.auto.bit-end in
    let last : c.loop-bit.bit ≡ c.width-bit-end.result = omega (arith, low, high) in
    let one = same_net nets c.args.net c.index-nets-net-2.result c.requires.there c.index-nets-net-2.is in
    c.loop-bit.invariant.size
    ∙ ap (λ (n : ℕ). offset nets c.args.net + n) (last ∙ c.width-bit-end.ensures)
    ∙ sym (c.bits_stand_by_nets.ensures.next nets c.args.net c.index-nets-net-2.result c.requires.there
    c.index-nets-net-2.is)
