use Rattle.std.proofs.Common.{ℕ, List, sym, subst}
use Rattle.eq_names.specs.declared.BitName.{BitName}
use Rattle.eq_verilog.specs.Expressions.{wire}
use Rattle.eq_verilog.specs.Trees.{target_tree}
use Rattle.eq_analysis.specs.Finding.{scope_of}
use Rattle.eq_flatten.specs.Meant.{AreMeant}
use Rattle.eq_registers.specs.inner.Adding.{IsAdded, stands}
use Rattle.eq_registers.proofs.Added.{in_row}
use Rattle.eq_registers.proofs.Written.{meant_alone}
use Rattle.eq_registers.proofs.collecting.add_set.Goals as goal

pub add_bits-requires : goal.add_bits-requires
add_bits-requires c =
    let nets = c.args.nets.now in
    let s = scope_of nets c.args.names.now c.args.from in
    let t = target_tree c.args.target.now in
    let meant : AreMeant nets s t c.as_slice.result.now =
    subst (λ (bs : List BitName). AreMeant nets s t bs) (sym c.as_slice.ensures)
    (meant_alone nets s t c.new-bits.result c.add_target.new.bits c.new-bits.ensures c.in_ok-add_target.ensures) in
    in_row nets c.args.starts.now c.as_slice.result.now c.requires.starts meant.there c.requires.few

pub returns : goal.returns
returns c =
    let nets = c.args.nets.now in
    let s = scope_of nets c.args.names.now c.args.from in
    let t = target_tree c.args.target.now in
    let meant : AreMeant nets s t c.as_slice.result.now =
    subst (λ (bs : List BitName). AreMeant nets s t bs) (sym c.as_slice.ensures)
    (meant_alone nets s t c.new-bits.result c.add_target.new.bits c.new-bits.ensures c.in_ok-add_target.ensures) in
    subst (λ (n : ℕ). IsAdded nets c.args.keys.now c.add_bits.new.keys (stands (wire s t) n)) meant.size
    (c.in_ok-add_bits.ensures nets (wire s t) c.requires.keyed meant.there c.requires.starts meant.wires)
