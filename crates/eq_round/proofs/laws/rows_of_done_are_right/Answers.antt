use Rattle.std.proofs.Common.{ap, sym, subst}
use Rattle.eq_bits.specs.Replay.{meaning}
use Rattle.eq_compose.specs.Rows.{IsRight}
use Rattle.eq_compose.specs.declared.types.Row.{Row}
use Rattle.eq_net.specs.Whole.{parts_of}
use Rattle.eq_round.proofs.Rows.{right_row}
use Rattle.eq_round.proofs.laws.rows_of_done_are_right.Goals as goal

pub returns-clause-one : goal.returns-clause-one
returns-clause-one c w i d done =
    let gold = parts_of w.gold.now in
    let gate = parts_of w.gate.now in
    right_row gold gate w.plan.now i d.part w.strategies.now d.decided.tries
    (λ depth k. c.a_proved_part_never_differs.ensures gold gate w.plan.now i (meaning d.part) depth k done.cut.denotes)
    d.decided.verdict (c.a_verdict_is_induction.ensures d.part w.strategies.now d.decided done.outcome)

pub returns-clause-all : goal.returns-clause-all
returns-clause-all c w rows made q row at =
    let of = made q row at in
    let P : Row → Type 0 = λ r. IsRight (parts_of w.gold.now) (parts_of w.gate.now) w.plan.now q r.verdict in
    subst P (sym of.2) (returns-clause-one c w q of.0 of.1)

pub returns-clause-order : goal.returns-clause-order
returns-clause-order c w rows made q row at = ap (λ (r : Row). r.part) (made q row at).2
