use Rattle.std.proofs.Common.{ℕ, ◌<◌, List, All, length, sym, subst}
use Rattle.eq_net.specs.declared.types.WordBit.{WordBit}
use Rattle.eq_net.specs.Tree.{trees_of}
use Rattle.eq_verilog.specs.Trees.{stmt_tree}
use Rattle.eq_analysis.specs.Finding.{scope_of}
use Rattle.eq_sequential.specs.inner.Placing.{AreOnce, IsPut}
use Rattle.eq_sequential.proofs.FollowingLemmas.{body_added, keys_below, keys_once}
use Rattle.eq_sequential.proofs.following.add_body.Goals as goal

pub put_all-requires-clause-once : goal.put_all-requires-clause-once
put_all-requires-clause-once c =
    subst (λ (bs : List ℕ). AreOnce bs) (sym c.as_slice.ensures)
    (keys_once c.in_ok-next.next.keys c.in_ok-next.ensures.collected.keyed.has)

pub put_all-requires-clause-there : goal.put_all-requires-clause-there
put_all-requires-clause-there c =
    subst (λ (bs : List ℕ). All (λ (b : ℕ). b < length c.args.slots.now) bs) (sym c.as_slice.ensures)
    (keys_below c.args.nets.now c.in_ok-next.next.keys (length c.args.slots.now) c.requires.slots
    c.in_ok-next.ensures.collected.keyed)

pub returns : goal.returns
returns c =
    let next = c.in_ok-next.next in
    let before = c.args.slots.now in
    let filled = c.put_all.new.slots in
    body_added c.args.nets.now (scope_of c.args.nets.now c.args.names.now c.args.from) (stmt_tree c.args.body.now)
    (trees_of c.args.words.now) (trees_of c.next_values.new.words) next before filled c.in_ok-next.ensures
    (subst (λ (bs : List ℕ). IsPut bs next.table before filled (length bs)) c.as_slice.ensures
    (subst (λ (es : List WordBit). IsPut c.as_slice.result.now es before filled (length c.as_slice.result.now))
    c.as_slice-2.ensures c.put_all.ensures))
