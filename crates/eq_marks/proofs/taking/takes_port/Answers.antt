use Rattle.std.proofs.Common.{ℕ, ◌<◌, List, length, slice_index_or, ap, sym, subst, ◌∙◌}
use Rattle.std.specs.Prelude.{is_some}
use Rattle.eq_net.specs.declared.types.Driver.{Driver}
use Rattle.eq_net.specs.declared.types.NetInfo.{NetInfo}
use Rattle.eq_net.specs.declared.types.Word.{Word}
use Rattle.eq_net.specs.Net.{bits_of, design_of, offset}
use Rattle.eq_net.specs.Tree.{trees_of}
use Rattle.eq_verilog.specs.Firsts.{first_below}
use Rattle.eq_reads.specs.Graph.{bare}
use Rattle.eq_marks.specs.Ports.{takes}
use Rattle.eq_marks.proofs.TakingLemmas.{named_offset}
use Rattle.eq_marks.proofs.taking.takes_port.Goals as goal

pub returns : goal.returns
returns c =
    let net = c.args.net.now in
    let N : List NetInfo = c.as_slice-nets.result.now in
    let W : List Word = c.as_slice.result.now in
    let D : List Driver = c.as_slice-2.result.now in
    let k : ℕ = c.start_of-bit.result in
    let there : c.args.clock < length N =
    subst (λ (ns : List NetInfo). c.args.clock < length ns) (sym c.as_slice-nets.ensures) c.requires.there in
    c.is_some.ensures
    ∙ ap is_some c.in_ok-found.ensures.ok
    ∙ ap (λ (ns : List NetInfo). is_some (first_below (bits_of ns) (takes (design_of (bare ns (trees_of W) D)) k)))
    c.as_slice-nets.ensures
    ∙ ap (λ (ws : List Word). is_some (first_below (bits_of net.nets) (takes (design_of (bare net.nets (trees_of ws) D)) k)))
    c.as_slice.ensures
    ∙ ap (λ (ds : List Driver). is_some (first_below (bits_of net.nets)
    (takes (design_of (bare net.nets (trees_of net.words) ds)) k))) c.as_slice-2.ensures
    ∙ ap (λ (m : ℕ). is_some (first_below (bits_of net.nets)
    (takes (design_of (bare net.nets (trees_of net.words) net.drivers)) m)))
    (c.start_of-bit.ensures ∙ ap (λ (xs : List ℕ). slice_index_or xs c.args.clock 0) c.deref.ensures.value
    ∙ c.in_ok-starts.ensures.each c.args.clock there
    ∙ ap (λ (ns : List NetInfo). offset ns c.args.clock) c.as_slice-nets.ensures
    ∙ sym (named_offset net.nets net.is_net.names c.args.clock c.requires.there))
