use Rattle.std.proofs.Common.{sym, ◌∙◌}
use Rattle.std.proofs.lemmas.Result.{err_from_is_err_and}
use Rattle.eq_config.proofs.Reached.{own_stop, said_twice, said_too_many, said_fine, added}
use Rattle.eq_config.proofs.read.take_line.Goals as goal

pub returns-in_err-said-clause-fault : goal.returns-in_err-said-clause-fault
returns-in_err-said-clause-fault c =
    let p = err_from_is_err_and c.from_residual.result c.from_residual.ensures.1 in
    rw (p.1, p.2)
    (own_stop c.args.draft.now c.args.number c.args.text.now (c.is_text.ensures.0 c.if-not-is_text.false) c.in_err-said.field-0.0 c.in_err-said.ensures.fault)

pub returns-then-is_twice-clause-fault : goal.returns-then-is_twice-clause-fault
returns-then-is_twice-clause-fault c = rw c.refused.ensures (λ before is at.
    said_twice c.args.draft.now c.args.number c.args.text.now before is at c.in_ok-said.said c.in_ok-said.ensures.says
    (c.is_text.ensures.0 c.if-not-is_text.false) c.in_ok-said.ensures.ok (sym c.is_twice.ensures ∙ c.if-is_twice.true))

pub returns-then-is_too_many-clause-fault : goal.returns-then-is_too_many-clause-fault
returns-then-is_too_many-clause-fault c = rw c.refused-then-is_too_many.ensures (λ before is at.
    said_too_many c.args.draft.now c.args.number c.args.text.now before is at c.in_ok-said.said c.in_ok-said.ensures.says
    (c.is_text.ensures.0 c.if-not-is_text.false) c.in_ok-said.ensures.ok (sym c.is_twice.ensures ∙ c.if-is_twice.false)
    (sym c.is_too_many.ensures ∙ c.if-is_too_many.true))

pub returns-clause-ok : goal.returns-clause-ok
returns-clause-ok c = λ before is at.
    added c.args.draft.now c.args.number c.args.text.now before is at c.in_ok-said.said c.add.new.self c.in_ok-said.ensures.says c.in_ok-add.ensures

pub returns-clause-fine : goal.returns-clause-fine
returns-clause-fine c = λ before is at.
    said_fine c.args.draft.now c.args.number c.args.text.now before is at c.in_ok-said.said c.in_ok-said.ensures.says
    (c.is_text.ensures.0 c.if-not-is_text.false) c.in_ok-said.ensures.ok (sym c.is_twice.ensures ∙ c.if-is_twice.false)
    (sym c.is_too_many.ensures ∙ c.if-is_too_many.false)
