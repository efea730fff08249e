use Rattle.std.proofs.Common.{◌≡◌, ◌<◌, ℕ, List, ◌∙◌, ap, arith, slice_index, subst, sym}
use Rattle.eq_reads.specs.Graph.{to_at}
use Rattle.eq_loops.specs.inner.Back.{IsStepBack}
use Rattle.eq_loops.proofs.Traced.{traced_all, traced_more}
use Rattle.eq_loops.proofs.rounds.trace.Goals as goal

pub loop-round-preserved : goal.loop-round-preserved
loop-round-preserved c =
    let edges = c.args.edges.now in
    let ranks = c.args.back.now.ranks.items in
    let vias = c.args.back.now.vias.items in
    let x = c.loop-round.node in
    let y = c.onward-node.result in
    let is : c.number_in.result ≡ slice_index ranks x =
    c.number_in.ensures ∙ ap (λ (xs : List ℕ). slice_index xs x) c.deref.ensures.value in
    let test : 1 < c.number_in.result = c.loop-round-test.true in
    let more : 1 < slice_index ranks x = omega arith in
    let step : IsStepBack edges ranks x (slice_index vias x) = c.requires.back.step x more in
    let on : y ≡ to_at edges (slice_index vias x) =
    c.onward-node.ensures ∙ ap (λ (xs : List ℕ). to_at edges (slice_index xs x)) c.deref-in-loop-round.ensures.value in (
      subst (λ (u : ℕ). 0 < slice_index ranks u) (sym on) step.ranked,
      λ s sound. traced_more s edges c.args.bits c.args.b ranks vias x y c.loop-round.round.items c.put_bit.new.round.items step on
          c.in_ok-put_bit.ensures.bit c.in_ok-put_bit.ensures.inner sound (c.loop-round.invariant.1 s sound),
    )

pub returns : goal.returns
returns c = λ s sound.
    let ranks = c.args.back.now.ranks.items in
    let x = c.loop-round.node in
    let is : c.number_in.result ≡ slice_index ranks x =
    c.number_in.ensures ∙ ap (λ (xs : List ℕ). slice_index xs x) c.deref.ensures.value in
    let test = c.loop-round-test.false in
    let some = c.loop-round.invariant.0 in
    let one : slice_index ranks x ≡ 1 = omega arith in
    traced_all s c.args.edges.now c.args.bits c.args.b ranks c.args.back.now.vias.items x c.loop-round.round.items c.requires.bit
    c.requires.back one (c.loop-round.invariant.1 s sound)
