use Rattle.std.proofs.Common.{◌<◌, List, Bool, Err, map, subst, sym, ap, ◌∙◌}
use Rattle.eq_model.specs.Nets.{Net}
use Rattle.eq_net.specs.declared.types.NetInfo.{NetInfo}
use Rattle.eq_net.specs.Net.{bits_of}
use Rattle.eq_net.specs.Nets.{net_of}
use Rattle.eq_net.specs.Tree.{trees_of as words_of}
use Rattle.eq_verilog.specs.declared.refusal.ElabErr.TheVariants as err
use Rattle.eq_verilog.specs.declared.refusal.ElabKind.TheVariants as kind
use Rattle.eq_verilog.specs.BitRefusals.{no_init, undriven_bit}
use Rattle.eq_verilog.specs.Nets.{bit_name}
use Rattle.eq_drivers.specs.Telling.{AreRegs}
use Rattle.eq_layout.specs.Layout.{design_in, trees_of}
use Rattle.eq_elab.specs.inner.Elaborating.{from_clocks, from_init}
use Rattle.eq_elab.proofs.Checked.{found_none, found_some}
use Rattle.eq_elab.proofs.Steps.{if_ok, pass, refuse}
use Rattle.eq_elab.proofs.elaborating.of_slots.Goals as goal

pub at_bit-requires-in-Some-unbegun_bit : goal.at_bit-requires-in-Some-unbegun_bit
at_bit-requires-in-Some-unbegun_bit c =
    let l = c.args.layout in
    let nets = l.flat.nets.items in
    let f = design_in l c.args.top.now in
    let regs = subst (λ (fs : List Bool). AreRegs f fs) (sym c.deref-in-None.ensures.value) c.in_ok-flags.ensures.ok in
    let found = found_some f (no_init f) (bits_of nets) c.unbegun_bit.result c.in-Some-unbegun_bit.bit
    c.in-Some-unbegun_bit.is (c.unbegun_bit.ensures nets (words_of c.args.words) f c.requires.tell regs) in
    record {
      there = subst (λ (ns : List NetInfo). c.in-Some-unbegun_bit.bit < bits_of ns)
          (sym c.deref-in-Some-unbegun_bit.ensures.value) found.1;
    }

pub of_drivers-requires-clause-left : goal.of_drivers-requires-clause-left
of_drivers-requires-clause-left c =
    let l = c.args.layout in
    let all = trees_of l in
    let top = c.args.top.now in
    let nets = l.flat.nets.items in
    let f = design_in l top in
    let regs = subst (λ (fs : List Bool). AreRegs f fs) (sym c.deref-in-None.ensures.value) c.in_ok-flags.ensures.ok in
    let driven = found_none f (undriven_bit f) (bits_of nets) c.in_ok-undriven.undriven c.in-None.is
    c.in_ok-undriven.ensures in
    let begun = found_none f (no_init f) (bits_of nets) c.unbegun_bit.result c.in-None-unbegun_bit.is
    (c.unbegun_bit.ensures nets (words_of c.args.words) f c.requires.tell regs) in
    pass all top kind.NoInit (no_init f) (from_clocks f)
    (pass all top kind.Undriven (undriven_bit f) (from_init f) c.requires.left driven) begun

pub returns-in-Some-unbegun_bit : goal.returns-in-Some-unbegun_bit
returns-in-Some-unbegun_bit c =
    let l = c.args.layout in
    let all = trees_of l in
    let top = c.args.top.now in
    let nets = l.flat.nets.items in
    let f = design_in l top in
    let bit = c.in-Some-unbegun_bit.bit in
    let regs = subst (λ (fs : List Bool). AreRegs f fs) (sym c.deref-in-None.ensures.value) c.in_ok-flags.ensures.ok in
    let found = found_some f (no_init f) (bits_of nets) c.unbegun_bit.result bit c.in-Some-unbegun_bit.is
    (c.unbegun_bit.ensures nets (words_of c.args.words) f c.requires.tell regs) in
    let driven = found_none f (undriven_bit f) (bits_of nets) c.in_ok-undriven.undriven c.in-None.is
    c.in_ok-undriven.ensures in
    let named = ap (λ (ns : List NetInfo). map net_of ns) c.deref-in-Some-unbegun_bit.ensures.value
    ∙ c.requires.laid.nets in
    if_ok c.at_bit-in-Some-unbegun_bit.result
    (λ a is. refuse all top kind.NoInit (no_init f) (bit_name f.nets bit) (from_clocks f) a
    (pass all top kind.Undriven (undriven_bit f) (from_init f) c.requires.left driven) found.0
    (is ∙ ap (λ (ns : List Net). Err (err.At kind.NoInit (bit_name ns bit))) named))
    c.at_bit-in-Some-unbegun_bit.ensures
