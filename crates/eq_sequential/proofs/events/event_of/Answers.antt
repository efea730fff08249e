use Rattle.std.proofs.Common.{ℕ, List, Option, sym, subst, ◌∙◌, ◌<◌}
use Rattle.std.specs.Prelude.{IfSome}
use Rattle.eq_names.specs.declared.BitName.{BitName}
use Rattle.eq_net.specs.Net.{bits_of}
use Rattle.eq_verilog.specs.Trees.{target_tree}
use Rattle.eq_analysis.specs.Finding.{scope_of}
use Rattle.eq_flatten.specs.Meant.{AreMeant}
use Rattle.eq_flatten.proofs.MeantParts.{meant_of}
use Rattle.eq_sequential.proofs.EventLemmas.{bits_there, first_below, first_wire}
use Rattle.eq_sequential.proofs.events.event_of.Goals as goal

pub first_of-requires : goal.first_of-requires
first_of-requires c =
    let nets = c.args.nets.now in
    let s = scope_of nets c.args.names.now c.args.from in
    let t = target_tree c.args.clock.now in
    let meant : AreMeant nets s t c.as_slice.result.now =
    subst (λ (bs : List BitName). AreMeant nets s t bs) (sym c.as_slice.ensures)
    (meant_of nets s t c.new-bits.result c.add_target.new.bits c.new-bits.ensures c.in_ok-add_target.ensures) in
    bits_there nets c.args.starts.now c.requires.starts c.as_slice.result.now meant.there c.requires.few

pub returns-clause-bit : goal.returns-clause-bit
returns-clause-bit c =
    let nets = c.args.nets.now in
    let s = scope_of nets c.args.names.now c.args.from in
    let t = target_tree c.args.clock.now in
    let meant : AreMeant nets s t c.as_slice.result.now =
    subst (λ (bs : List BitName). AreMeant nets s t bs) (sym c.as_slice.ensures)
    (meant_of nets s t c.new-bits.result c.add_target.new.bits c.new-bits.ensures c.in_ok-add_target.ensures) in
    c.first_of.ensures ∙ first_wire nets c.args.starts.now c.requires.starts s t c.as_slice.result.now meant

pub returns-clause-there : goal.returns-clause-there
returns-clause-there c =
    let nets = c.args.nets.now in
    let s = scope_of nets c.args.names.now c.args.from in
    let t = target_tree c.args.clock.now in
    let meant : AreMeant nets s t c.as_slice.result.now =
    subst (λ (bs : List BitName). AreMeant nets s t bs) (sym c.as_slice.ensures)
    (meant_of nets s t c.new-bits.result c.add_target.new.bits c.new-bits.ensures c.in_ok-add_target.ensures) in
    subst (λ (e : Option ℕ). IfSome e (λ n. n < bits_of nets)) (sym c.first_of.ensures)
    (first_below nets c.args.starts.now c.requires.starts c.as_slice.result.now meant.there)
