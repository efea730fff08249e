use Rattle.std.proofs.Common.{◌≡◌, List, IfOk, subst, ◌∙◌}
use Rattle.eq_net.specs.declared.types.NetInfo.{NetInfo}
use Rattle.eq_net.specs.Net.{bits_of, design_of}
use Rattle.eq_net.specs.Tree.{trees_of as words_of}
use Rattle.eq_verilog.specs.BitRefusals as refusals
use Rattle.eq_verilog.specs.Firsts.{first_below}
use Rattle.eq_layout.specs.Layout.{design_in}
use Rattle.eq_marks.specs.Missing.{is_missed}
use Rattle.eq_reads.specs.Graph.{bare}
use Rattle.eq_elab.proofs.Checked.{are_of, found_below}
use Rattle.eq_elab.proofs.Steps.{if_ok}
use Rattle.eq_elab.proofs.checking.undriven_bit.Goals as goal

pub returns : goal.returns
returns c =
    let l = c.args.layout.now in
    let nets = l.flat.nets.items in
    let words = words_of c.args.words.now in
    let drivers = c.args.drivers.now in
    let f = design_in l c.args.top.now in
    let are = are_of l c.args.top.now words drivers c.requires.laid c.requires.wired in
    if_ok c.first_missed.result
    (λ o h. found_below f (bits_of nets) (refusals.is_missed f) o
    (h ∙ c.bits_by_parts.ensures.missed (bare nets words drivers) f are) c.requires.wired.told.system.bits)
    (subst (λ (ns : List NetInfo). IfOk c.first_missed.result (λ o. o ≡ first_below (bits_of ns)
    (is_missed (design_of (bare ns words drivers))))) c.deref.ensures.value c.first_missed.ensures.ok)
