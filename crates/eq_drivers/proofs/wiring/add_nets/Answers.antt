use Rattle.std.proofs.Common.{◌≡◌, ℕ, List, length, arith, sym, ap, ◌∙◌}
use Rattle.eq_net.specs.declared.types.Driver.{Driver}
use Rattle.eq_net.specs.Net.{offset}
use Rattle.eq_net.specs.Tree.{trees_of}
use Rattle.eq_drivers.proofs.Grown.{chosen_none, grows_none}
use Rattle.eq_drivers.proofs.Placed.{all_offset}
use Rattle.eq_drivers.proofs.wiring.add_nets.Goals as goal

pub loop-net-init : goal.loop-net-init
loop-net-init c =
    let nets = c.args.nets.now in
    let words = trees_of c.args.words.now in
    record {
      size = ap (λ (ds : List Driver). length ds) c.new-drivers.ensures.items
          ∙ sym (c.bits_stand_by_nets.ensures.first nets);
      grows = grows_none nets words c.requires.words;
      chosen = chosen_none nets c.args.flags.now c.args.slots.now words c.new-drivers.result.items
          c.new-drivers.ensures.items;
    }

pub returns-clause-size : goal.returns-clause-size
returns-clause-size c =
    let nets = c.args.nets.now in
    let low = c.loop-net-test.false in
    let high = c.loop-net.auto.net-end in
    let last : c.loop-net.net ≡ length nets = omega (arith, low, high) in
    c.loop-net.invariant.size ∙ ap (λ (k : ℕ). offset nets k) last ∙ all_offset nets
