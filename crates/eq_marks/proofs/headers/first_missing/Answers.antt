use Rattle.std.proofs.Common.{arith, sym, ◌∙◌}
use Rattle.eq_net.specs.Net.{name_at}
use Rattle.eq_marks.specs.Answers.{meaning}
use Rattle.eq_marks.specs.inner.Headers.{is_missing}
use Rattle.eq_marks.proofs.HeaderLemmas.{first_here, first_nowhere}
use Rattle.eq_marks.proofs.headers.first_missing.Goals as goal

pub returns-then-is_missing : goal.returns-then-is_missing
returns-then-is_missing c =
    let net = c.args.net.now in
    let count = c.port_count-place-end.ensures in
    let test = c.loop-place-test.true in
    first_here (is_missing c.args.others.now) (meaning net).ports c.loop-place.place (name_at net.nets
    c.port_at.result) (omega arith) c.port_at.ensures.named c.loop-place.invariant
    (sym c.is_missing.ensures ∙ c.if-is_missing.true)

pub returns : goal.returns
returns c =
    let count = c.port_count-place-end.ensures in
    let test = c.loop-place-test.false in
    let end = c.loop-place.auto.place-end in
    first_nowhere (is_missing c.args.others.now) (meaning c.args.net.now).ports c.loop-place.place (omega arith)
    c.loop-place.invariant
