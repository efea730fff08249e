use Rattle.std.proofs.Common.{List, length, sym, subst}
use Rattle.eq_names.specs.declared.BitName.{BitName}
use Rattle.eq_verilog.specs.Trees.{expr_tree}
use Rattle.eq_analysis.specs.Finding.{scope_of}
use Rattle.eq_flatten.specs.Meant.{AreMeant}
use Rattle.eq_flatten.proofs.Assigned.{bits_driven}
use Rattle.eq_flatten.proofs.MeantParts.{meant_of}
use Rattle.eq_flatten.proofs.Numbered.{bits_inside}
use Rattle.eq_flatten.proofs.gates.drive_output.Goals as goal

pub drive-requires-clause-there : goal.drive-requires-clause-there
drive-requires-clause-there c =
    let nets = c.args.nets.now in
    let s = scope_of nets c.args.names.now c.args.from in
    let t = expr_tree c.args.target.now in
    let meant = subst (λ (bs : List BitName). AreMeant nets s t bs) (sym c.as_slice.ensures)
    (meant_of nets s t c.new-bits.result c.add_output.new.bits c.new-bits.ensures c.in_ok-add_output.ensures) in
    bits_inside nets c.args.starts.now c.requires.starts c.as_slice.result.now (length c.args.slots.now)
    c.requires.slots meant.there

pub returns : goal.returns
returns c =
    let nets = c.args.nets.now in
    let s = scope_of nets c.args.names.now c.args.from in
    let t = expr_tree c.args.target.now in
    record {
      size = c.drive.ensures.size;
      filled = bits_driven nets s t c.args.starts.now c.as_slice.result.now c.args.word c.args.slots.now
          c.drive.new.slots c.requires.starts
          (subst (λ (bs : List BitName). AreMeant nets s t bs) (sym c.as_slice.ensures)
          (meant_of nets s t c.new-bits.result c.add_output.new.bits c.new-bits.ensures c.in_ok-add_output.ensures))
          c.drive.ensures.driven;
    }
