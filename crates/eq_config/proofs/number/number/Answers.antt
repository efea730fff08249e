use Rattle.std.proofs.Common.{◌≡◌, ◌+◌, arith, ap, ◌∙◌}
use Rattle.std.proofs.lemmas.List.{take_all}
use Rattle.eq_config.specs.Words.{value_of}
use Rattle.eq_config.proofs.Numerals.{number_first, number_digits, is_number, value-le, value_more}
use Rattle.eq_config.proofs.number.number.Goals as goal

pub returns-then-begins_with-clause-none : goal.returns-then-begins_with-clause-none
returns-then-begins_with-clause-none c = λ h. number_first c.args.most c.args.word.now (omega arith) h (c.begins_with.ensures.0 c.if-begins_with.true)

pub returns-then-not-is_ascii_digit-clause-none : goal.returns-then-not-is_ascii_digit-clause-none
returns-then-not-is_ascii_digit-clause-none c = λ h.
    let digit = number_digits c.args.most c.args.word.now (omega arith) h c.loop-byte.byte-index c.loop-byte-test.true in
    grind (arith, digit, c.if-not-is_ascii_digit.ensures.cases)

pub returns-then-value-most-clause-none : goal.returns-then-value-most-clause-none
returns-then-value-most-clause-none c = λ h.
    let within = h.within in
    let more = value_more c.args.word.now c.loop-byte.byte-index c.loop-byte-test.true in
    omega (arith, more, value-le c.args.word.now (c.loop-byte.byte-index + 1))

pub returns-else-value-eq0-clause-ok : goal.returns-else-value-eq0-clause-ok
returns-else-value-eq0-clause-ok c =
    let whole = take_all c.loop-byte.byte-index c.args.word.now c.loop-byte-test.false in
    let value : c.loop-byte.value ≡ value_of c.args.word.now = c.loop-byte.invariant.0 ∙ ap value_of whole in
    is_number c.args.most c.args.word.now (omega arith)
    (λ i within. c.loop-byte.invariant.2 i (omega arith))
    (λ zero'. let first = c.begins_with.ensures.1 zero' in absurd (cc))
    (omega arith) (omega arith)
