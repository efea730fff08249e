use Rattle.std.proofs.Common.{ℕ, List, subst}
use Rattle.eq_model.specs.System.{IsLoopFree}
use Rattle.eq_net.specs.declared.types.Driver.{Driver}
use Rattle.eq_net.specs.declared.types.NetInfo.{NetInfo}
use Rattle.eq_net.specs.declared.types.Word.{Word}
use Rattle.eq_net.specs.Net.{system_of}
use Rattle.eq_net.specs.Tree.{trees_of as words_of}
use Rattle.eq_loops.specs.Cycle.{IsCycle}
use Rattle.eq_reads.specs.Graph.{bare}
use Rattle.eq_elab.specs.inner.Looping.{IsNamed}
use Rattle.eq_elab.proofs.Netted.{agrees, refused, some_told, subst_all}
use Rattle.eq_elab.proofs.elaborating.of_clock.Goals as goal

pub returns-in_ok-told-in-Some : goal.returns-in_ok-told-in-Some
returns-in_ok-told-in-Some c =
    let l = c.args.layout in
    let words = words_of c.args.words in
    let drivers = c.args.drivers.items in
    let bits = c.in-Some.bits.items in
    let told = c.in_ok-told-in-Some.told in
    let cycle = some_told (λ bs. IsCycle (system_of (bare c.deref.result.now (words_of c.as_slice.result.now)
    c.deref-2.result.now)) bs.items) c.in_ok-bits.field-0 c.in-Some.bits c.in-Some.is c.in_ok-bits.ensures.found in
    let cycle_is = subst_all (λ (ns : List NetInfo) (ws : List Word) (ds : List Driver).
    IsCycle (system_of (bare ns (words_of ws) ds)) bits) c.deref.ensures.value c.as_slice.ensures c.deref-2.ensures.value
    cycle in
    let named = subst (λ (ns : List NetInfo). IsNamed ns bits told.cycle told.name) c.deref-in-Some.ensures.value
    (subst (λ (bs : List ℕ). IsNamed c.deref-in-Some.result.now bs told.cycle told.name) c.deref-in-Some-2.ensures.value
    c.in_ok-told-in-Some.ensures) in
    refused l c.args.top.now words drivers c.requires.laid c.requires.wired c.requires.left
    (c.words_make_a_system.ensures (bare l.flat.nets.items words drivers) c.requires.wired.words_are)
    bits told.cycle told.name cycle_is named

pub returns-in_ok-net-in-None : goal.returns-in_ok-net-in-None
returns-in_ok-net-in-None c =
    let l = c.args.layout in
    let words = words_of c.args.words in
    let drivers = c.args.drivers.items in
    let free = subst_all (λ (ns : List NetInfo) (ws : List Word) (ds : List Driver).
    IsLoopFree (system_of (bare ns (words_of ws) ds))) c.deref.ensures.value c.as_slice.ensures c.deref-2.ensures.value
    (c.in_ok-bits.ensures.none c.in-None.is) in
    agrees l c.args.top.now words drivers c.requires.laid c.requires.wired c.requires.left
    (c.words_make_a_system.ensures (bare l.flat.nets.items words drivers) c.requires.wired.words_are)
    c.args.clock c.args.cost free c.requires.clock c.requires.cost.is c.in_ok-net-in-None.net
    c.in_ok-net-in-None.ensures.ok
