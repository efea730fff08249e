use Rattle.std.proofs.Common.{subst, sym}
use Rattle.eq_bits.specs.Replay.{meaning}
use Rattle.eq_compose.specs.Rows.{IsRight}
use Rattle.eq_compose.specs.declared.types.Verdict.{Verdict}
use Rattle.eq_net.specs.Whole.{parts_of}
use Rattle.test_plans.proofs.Rows.{right_row}
use Rattle.test_plans.proofs.row.row.Goals as goal

pub returns-clause-right : goal.returns-clause-right
returns-clause-right c =
    let work = c.args.work.now in
    let gold = parts_of work.gold.now in
    let gate = parts_of work.gate.now in
    let plan = work.plan.now in
    let part = c.in_ok-part.part in
    let P : Verdict → Type 0 = λ v. IsRight gold gate plan c.args.i v in
    subst P (sym c.verdict.ensures)
    (right_row gold gate plan c.args.i part work.strategies.now c.in_ok-decided.decided.tries
    (λ depth k. c.a_proved_part_never_differs.ensures gold gate plan c.args.i (meaning part) depth k
    c.in_ok-part.ensures.denotes)
    c.in_ok-decided.decided.verdict c.in_ok-decided.ensures.says)
