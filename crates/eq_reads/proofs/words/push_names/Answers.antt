use Rattle.std.proofs.Common.{◌≡◌, ℕ, refl, arith, subst, length}
use Rattle.eq_reads.specs.inner.Leading.{Appended}
use Rattle.eq_reads.specs.inner.Reading.{named_at}
use Rattle.eq_reads.proofs.Rows.{appended_next}
use Rattle.eq_reads.proofs.words.push_names.Goals as goal

pub loop-k-init : goal.loop-k-init
loop-k-init c = record { size = omega arith; kept = λ p lt. refl; added = λ j lt. absurd (omega arith) }

pub loop-k-preserved : goal.loop-k-preserved
loop-k-preserved c =
    let k = c.loop-k.k in
    let nets = c.args.nets.now in
    let names = c.args.names.now in
    let test = c.loop-k-test.true in
    let is : c.named.result ≡ named_at nets names k = c.named.ensures in
    appended_next c.args.row.now.items c.loop-k.row.items c.push.new.row.items k c.named.result (named_at nets names)
    c.loop-k.invariant
    c.in_ok-push.ensures.size c.in_ok-push.ensures.there c.in_ok-push.ensures.kept is

pub returns : goal.returns
returns c =
    let test = c.loop-k-test.false in
    let end = c.loop-k.auto.k-end in
    let at : c.loop-k.k ≡ length c.args.names.now = omega arith in
    subst (λ (n : ℕ). Appended c.args.row.now.items c.loop-k.row.items n (named_at c.args.nets.now c.args.names.now))
    at c.loop-k.invariant
