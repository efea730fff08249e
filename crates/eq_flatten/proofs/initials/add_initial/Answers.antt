use Rattle.std.proofs.Common.{List, length, sym, ap, subst, ◌∙◌}
use Rattle.eq_names.specs.declared.BitName.{BitName}
use Rattle.eq_verilog.specs.Equations.{place_below}
use Rattle.eq_verilog.specs.Expressions.{wire}
use Rattle.eq_verilog.specs.Trees.{target_tree}
use Rattle.eq_analysis.specs.Finding.{scope_of}
use Rattle.eq_flatten.specs.Driving.{filled, slot_at}
use Rattle.eq_flatten.specs.Meant.{AreMeant}
use Rattle.eq_flatten.proofs.BeginningLemmas.{adds_initial}
use Rattle.eq_flatten.proofs.MeantParts.{meant_of}
use Rattle.eq_flatten.proofs.Numbered.{bits_inside, numbered_wired}
use Rattle.eq_flatten.proofs.initials.add_initial.Goals as goal

pub drive-requires-clause-there : goal.drive-requires-clause-there
drive-requires-clause-there c =
    let nets = c.args.nets.now in
    let s = scope_of nets c.args.names.now c.args.from in
    let t = target_tree c.args.target.now in
    let meant : AreMeant nets s t c.as_slice.result.now =
    subst (λ (bs : List BitName). AreMeant nets s t bs) (sym c.as_slice.ensures)
    (meant_of nets s t c.new-bits.result c.add_target.new.bits c.new-bits.ensures c.in_ok-add_target.ensures) in
    bits_inside nets c.args.starts.now c.requires.starts c.as_slice.result.now (length c.args.slots.now)
    c.requires.slots meant.there

pub returns : goal.returns
returns c =
    let nets = c.args.nets.now in
    let s = scope_of nets c.args.names.now c.args.from in
    let t = target_tree c.args.target.now in
    let f = wire s t in
    let bits = c.as_slice.result.now in
    let meant : AreMeant nets s t bits =
    subst (λ (bs : List BitName). AreMeant nets s t bs) (sym c.as_slice.ensures)
    (meant_of nets s t c.new-bits.result c.add_target.new.bits c.new-bits.ensures c.in_ok-add_target.ensures) in
    adds_initial c.args.constants.now.items (record { scope = s; target = t; value = c.args.value })
    c.add_constant.new.constants.items c.in_ok-number.number c.args.slots.now c.drive.new.slots
    c.in_ok-number.ensures.added c.in_ok-number.ensures.number c.drive.ensures.size
    (λ b. c.drive.ensures.driven f
    (numbered_wired nets c.args.starts.now c.requires.starts bits f meant.there meant.wires) c.requires.target.apart b
    ∙ ap (λ n. filled (slot_at c.args.slots.now b) c.in_ok-number.number (place_below n f b)) meant.size)
