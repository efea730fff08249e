use Rattle.std.proofs.Common.{◌<◌, List, subst, sym, ap, ◌∙◌}
use Rattle.eq_net.specs.declared.types.NetInfo.{NetInfo}
use Rattle.eq_model.specs.Nets.{Net}
use Rattle.eq_net.specs.Net.{bits_of}
use Rattle.eq_net.specs.Nets.{net_of}
use Rattle.eq_net.specs.Tree.{trees_of as words_of}
use Rattle.eq_verilog.specs.declared.refusal.ElabErr.TheVariants as err
use Rattle.eq_verilog.specs.declared.refusal.ElabKind.TheVariants as kind
use Rattle.std.proofs.Common.{map, Err}
use Rattle.eq_verilog.specs.BitRefusals.{two_drivers}
use Rattle.eq_verilog.specs.Nets.{bit_name}
use Rattle.eq_layout.specs.Layout.{design_in, trees_of}
use Rattle.eq_elab.specs.inner.Elaborating.{from_undriven}
use Rattle.eq_elab.proofs.Checked.{found_none, found_some}
use Rattle.eq_elab.proofs.Steps.{if_ok, pass, refuse}
use Rattle.eq_elab.proofs.elaborating.of_nets.Goals as goal

pub at_bit-requires : goal.at_bit-requires
at_bit-requires c =
    let l = c.args.layout in
    let nets = l.flat.nets.items in
    let f = design_in l c.args.top.now in
    let found = found_some f (two_drivers f) (bits_of nets) c.doubled_bit.result c.in-Some.bit c.in-Some.is
    (c.doubled_bit.ensures nets (words_of c.slots_of.new.words) f c.in_ok-slots.ensures.tell) in
    record { there = subst (λ (ns : List NetInfo). c.in-Some.bit < bits_of ns) (sym c.deref.ensures.value) found.1 }

pub of_slots-requires-clause-left : goal.of_slots-requires-clause-left
of_slots-requires-clause-left c =
    let l = c.args.layout in
    let nets = l.flat.nets.items in
    let f = design_in l c.args.top.now in
    pass (trees_of l) c.args.top.now kind.TwoDrivers (two_drivers f) (from_undriven f) c.requires.left
    (found_none f (two_drivers f) (bits_of nets) c.doubled_bit.result c.in-None.is
    (c.doubled_bit.ensures nets (words_of c.slots_of.new.words) f c.in_ok-slots.ensures.tell))

pub returns-in-Some : goal.returns-in-Some
returns-in-Some c =
    let l = c.args.layout in
    let nets = l.flat.nets.items in
    let f = design_in l c.args.top.now in
    let bit = c.in-Some.bit in
    let found = found_some f (two_drivers f) (bits_of nets) c.doubled_bit.result bit c.in-Some.is
    (c.doubled_bit.ensures nets (words_of c.slots_of.new.words) f c.in_ok-slots.ensures.tell) in
    let named = ap (λ (ns : List NetInfo). map net_of ns) c.deref.ensures.value ∙ c.requires.laid.nets in
    if_ok c.at_bit.result
    (λ a is. refuse (trees_of l) c.args.top.now kind.TwoDrivers (two_drivers f) (bit_name f.nets bit) (from_undriven f) a
    c.requires.left found.0 (is ∙ ap (λ (ns : List Net). Err (err.At kind.TwoDrivers (bit_name ns bit))) named))
    c.at_bit.ensures
