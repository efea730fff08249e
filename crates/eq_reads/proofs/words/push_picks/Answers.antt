use Rattle.std.proofs.Common.{◌≡◌, ℕ, ◌+◌, refl, arith, subst, length, slice_index_or, ◌∙◌}
use Rattle.eq_reads.specs.inner.Leading.{Appended}
use Rattle.eq_reads.specs.Words.{IsPlaced, number_at}
use Rattle.eq_reads.specs.inner.Reading.{no_bit, picked_at}
use Rattle.eq_reads.proofs.Rows.{appended_next}
use Rattle.eq_reads.proofs.Worded.{all_within}
use Rattle.eq_reads.proofs.words.push_picks.Goals as goal

pub loop-k-init : goal.loop-k-init
loop-k-init c = record { size = omega arith; kept = λ p lt. refl; added = λ j lt. absurd (omega arith) }

pub picked-node-requires : goal.picked-node-requires
picked-node-requires c =
    let k = c.loop-k.k in
    let places = c.args.places.now in
    let bits = c.args.bits.now in
    let row = c.args.row.now.items in
    let test = c.loop-k-test.true in
    let at = all_within (IsPlaced places row) bits no_bit c.requires.bits k (omega arith) in
    let size = c.loop-k.invariant.size in
    let lt = at.1 in
    (at.0, omega arith)

pub loop-k-preserved : goal.loop-k-preserved
loop-k-preserved c =
    let k = c.loop-k.k in
    let places = c.args.places.now in
    let bits = c.args.bits.now in
    let row = c.args.row.now.items in
    let before = c.loop-k.row.items in
    let test = c.loop-k-test.true in
    let at = all_within (IsPlaced places row) bits no_bit c.requires.bits k (omega arith) in
    let bit = slice_index_or bits k no_bit in
    let is : c.picked-node.result ≡ picked_at places row bits k = c.picked-node.ensures ∙ c.loop-k.invariant.kept
    (number_at places bit.word + bit.bit) at.1 in
    appended_next row before c.push.new.row.items k c.picked-node.result (picked_at places row bits) c.loop-k.invariant
    c.in_ok-push.ensures.size c.in_ok-push.ensures.there c.in_ok-push.ensures.kept is

pub returns : goal.returns
returns c =
    let test = c.loop-k-test.false in
    let end = c.loop-k.auto.k-end in
    let at : c.loop-k.k ≡ length c.args.bits.now = omega arith in
    subst (λ (n : ℕ). Appended c.args.row.now.items c.loop-k.row.items n
    (picked_at c.args.places.now c.args.row.now.items c.args.bits.now)) at c.loop-k.invariant
