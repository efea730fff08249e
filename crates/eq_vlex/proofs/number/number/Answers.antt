use Rattle.std.proofs.Common.{sym, ◌∙◌}
use Rattle.eq_vlex.proofs.Numbering.{quoted_fault, plain_fault}
use Rattle.eq_vlex.proofs.number.number.Goals as goal

pub returns-then-byte-eq39-clause-fault : goal.returns-then-byte-eq39-clause-fault
returns-then-byte-eq39-clause-fault c =
    quoted_fault c.args.text.now c.run-front.result.now c.run.result.now c.quoted_number.result c.run-front.ensures.value (sym c.byte.ensures ∙ c.if-byte-eq39.true) c.run.ensures.value c.quoted_number.ensures.fault

pub returns-else-byte-eq39-clause-fault : goal.returns-else-byte-eq39-clause-fault
returns-else-byte-eq39-clause-fault c =
    plain_fault c.args.text.now c.run-front.result.now c.run-else-byte-eq39.result.now c.plain_number.result c.run-front.ensures.value (λ e. c.if-byte-eq39.false (c.byte.ensures ∙ e)) c.run-else-byte-eq39.ensures.value c.plain_number.ensures.fault
