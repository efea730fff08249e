use Rattle.std.proofs.Common.{◌≡◌, ℕ, List, Option, IfOk, subst, ◌∙◌}
use Rattle.eq_net.specs.declared.types.NetInfo.{NetInfo}
use Rattle.eq_net.specs.Net.{bits_of, design_of}
use Rattle.eq_net.specs.Tree.{trees_of as words_of}
use Rattle.eq_layout.specs.Layout.{design_in}
use Rattle.eq_marks.specs.Events.{first_astray, first_end, is_event}
use Rattle.eq_reads.specs.Graph.{bare}
use Rattle.eq_elab.proofs.Checked.{are_of, found_astray}
use Rattle.eq_elab.proofs.Steps.{if_ok}
use Rattle.eq_elab.proofs.checking.edges.Goals as goal

pub returns-clause-clock : goal.returns-clause-clock
returns-clause-clock c =
    let l = c.args.layout.now in
    let nets = l.flat.nets.items in
    let words = words_of c.args.words.now in
    let drivers = c.args.drivers.now in
    let es = c.in_ok-events.events.items in
    let f = design_in l c.args.top.now in
    let are = are_of l c.args.top.now words drivers c.requires.laid c.requires.wired in
    if_ok c.edges_of.result
    (λ e h. h ∙ c.bits_by_parts.ensures.clock (bare nets words drivers) f es are c.in_ok-events.ensures.there
    c.in_ok-events.ensures.ok)
    (subst (λ (xs : List (Option ℕ)). IfOk c.edges_of.result (λ e. e.clock ≡
    first_end (design_of (bare nets words drivers)) xs)) c.deref-2.ensures.value
    (subst (λ (ns : List NetInfo). IfOk c.edges_of.result (λ e. e.clock ≡
    first_end (design_of (bare ns words drivers)) c.deref-2.result.now)) c.deref.ensures.value c.edges_of.ensures.clock))

pub returns-clause-astray : goal.returns-clause-astray
returns-clause-astray c =
    let l = c.args.layout.now in
    let nets = l.flat.nets.items in
    let words = words_of c.args.words.now in
    let drivers = c.args.drivers.now in
    let es = c.in_ok-events.events.items in
    let f = design_in l c.args.top.now in
    let d = design_of (bare nets words drivers) in
    let are = are_of l c.args.top.now words drivers c.requires.laid c.requires.wired in
    if_ok c.edges_of.result
    (λ e h. found_astray f (bits_of nets) (is_event d (first_end d es)) es e.astray c.in_ok-events.ensures.there h
    (h ∙ c.bits_by_parts.ensures.astray (bare nets words drivers) f es are c.in_ok-events.ensures.there
    c.in_ok-events.ensures.ok))
    (subst (λ (xs : List (Option ℕ)). IfOk c.edges_of.result (λ e. e.astray ≡
    first_astray (design_of (bare nets words drivers)) xs)) c.deref-2.ensures.value
    (subst (λ (ns : List NetInfo). IfOk c.edges_of.result (λ e. e.astray ≡
    first_astray (design_of (bare ns words drivers)) c.deref-2.result.now)) c.deref.ensures.value
    c.edges_of.ensures.astray))
