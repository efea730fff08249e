use Rattle.std.proofs.Common.{◌≡◌, ℕ, List, Option, None, IfOk, subst, sym, ap, ◌∙◌}
use Rattle.eq_net.specs.declared.types.NetInfo.{NetInfo}
use Rattle.eq_net.specs.Meaning.{if_there}
use Rattle.eq_net.specs.Net.{bits_of, design_of}
use Rattle.eq_net.specs.Tree.{trees_of as words_of}
use Rattle.eq_verilog.specs.BitRefusals.{first_bit_where}
use Rattle.eq_verilog.specs.Clocks.{takes_as_data}
use Rattle.eq_verilog.specs.Designs.{copy_of, is_output_bit, system_of}
use Rattle.eq_verilog.specs.Firsts.{first_below}
use Rattle.eq_verilog.specs.Trees.{Name}
use Rattle.eq_layout.specs.Layout.{design_in}
use Rattle.eq_marks.specs.Ports.{takes}
use Rattle.eq_reads.specs.Graph.{bare}
use Rattle.eq_elab.specs.inner.Elaborating.{IsFound}
use Rattle.eq_elab.proofs.Checked.{are_of, found_below}
use Rattle.eq_elab.proofs.Steps.{if_ok}
use Rattle.eq_elab.proofs.checking.clock_as_data.Goals as goal

pub returns-in-Some : goal.returns-in-Some
returns-in-Some c =
    let l = c.args.layout.now in
    let nets = l.flat.nets.items in
    let words = words_of c.args.words.now in
    let drivers = c.args.drivers.now in
    let bit = c.in-Some.bit in
    let f = design_in l c.args.top.now in
    let are = are_of l c.args.top.now words drivers c.requires.laid c.requires.wired in
    let test = takes_as_data (system_of f) (copy_of f) (is_output_bit f) bit in
    let told = ap (λ (o : Option ℕ). if_there {A = ℕ} {B = Option Name} None (λ b. first_bit_where f
    (takes_as_data (system_of f) (copy_of f) (is_output_bit f) b)) o) (sym c.in-Some.is ∙ c.requires.clock) in
    if_ok c.first_taking.result
    (λ o h. subst (λ (t : Option Name). IsFound f t (bits_of nets) o) told
    (found_below f (bits_of nets) test o
    (h ∙ c.bits_by_parts.ensures.taken (bare nets words drivers) f bit are) c.requires.wired.told.system.bits))
    (subst (λ (ns : List NetInfo). IfOk c.first_taking.result (λ o. o ≡ first_below (bits_of ns)
    (takes (design_of (bare ns words drivers)) bit))) c.deref.ensures.value c.first_taking.ensures.ok)
