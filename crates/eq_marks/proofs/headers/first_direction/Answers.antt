use Rattle.std.proofs.Common.{List, ℕ, arith, sym, ap, ◌∙◌}
use Rattle.eq_net.specs.Net.{name_at}
use Rattle.eq_verilog.specs.Declarations.{has}
use Rattle.eq_marks.specs.Answers.{meaning}
use Rattle.eq_marks.specs.inner.Headers.{differs_in_direction}
use Rattle.eq_marks.proofs.HeaderLemmas.{first_here, first_nowhere, has_at}
use Rattle.eq_marks.proofs.headers.first_direction.Goals as goal

pub differs_in_direction-requires-clause-there : goal.differs_in_direction-requires-clause-there
differs_in_direction-requires-clause-there c =
    let gold = meaning c.args.gold.now in
    let gate = meaning c.args.gate.now in
    let count = c.port_count-place-end.ensures in
    let test = c.loop-place-test.true in
    ap (λ (n : List ℕ). has gate.ports n) c.port_at.ensures.named ∙ has_at gate.ports gold.ports c.loop-place.place
    c.requires.there (omega arith)

pub returns-then-differs_in_direction : goal.returns-then-differs_in_direction
returns-then-differs_in_direction c =
    let gold = c.args.gold.now in
    let count = c.port_count-place-end.ensures in
    let test = c.loop-place-test.true in
    first_here (differs_in_direction (meaning gold) (meaning c.args.gate.now)) (meaning gold).ports c.loop-place.place
    (name_at gold.nets c.port_at.result) (omega arith)
    c.port_at.ensures.named c.loop-place.invariant (sym c.differs_in_direction.ensures ∙ c.if-differs_in_direction.true)

pub returns : goal.returns
returns c =
    let gold = meaning c.args.gold.now in
    let count = c.port_count-place-end.ensures in
    let test = c.loop-place-test.false in
    let end = c.loop-place.auto.place-end in
    first_nowhere (differs_in_direction gold (meaning c.args.gate.now)) gold.ports c.loop-place.place (omega arith)
    c.loop-place.invariant
