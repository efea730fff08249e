use Rattle.std.proofs.Common.{◌≡◌, ℕ, ◌+◌, List, ◌∷◌, ◌++◌, ap, ◌∙◌, sym, arith}
use Rattle.std.proofs.lemmas.Option.{IfSome_then}
use Rattle.std.proofs.lemmas.Fmt.{decimal_digit}
use Rattle.std.specs.Fmt.{decimal}
use Rattle.eq_wit.proofs.Numerals.{no_decimal-empty, no_decimal-first, no_decimal-zero, no_decimal-big, IfNone_then}
use Rattle.eq_wit.proofs.numeral.number_of.Goals as goal

pub returns-in_err-byte-clause-none : goal.returns-in_err-byte-clause-none
returns-in_err-byte-clause-none c =
    rw c.from_residual.ensures (λ n rest small end e. no_decimal-empty c.args.text.now rest n c.in_err-byte.ensures small e)

pub returns-in_err-first-clause-none : goal.returns-in_err-first-clause-none
returns-in_err-first-clause-none c =
    rw c.from_residual-in_err-first.ensures (λ n rest small end e. no_decimal-first c.args.text.now c.in_ok-byte.byte c.in_ok-byte.rest.now rest n c.in_ok-byte.ensures c.in_err-first.ensures.none small e)

pub returns-then-first-ne0-clause-some : goal.returns-then-first-ne0-clause-some
returns-then-first-ne0-clause-some c =
    let d = c.in_ok-first.first in
    let bytes = c.in_ok-byte.rest.now in
    let text : c.args.text.now ≡ decimal d ++ bytes =
    c.in_ok-byte.ensures ∙ ap (λ (b : ℕ). b ∷ bytes) c.in_ok-first.ensures.some.0 ∙ sym (ap (λ (ds : List ℕ). ds ++ bytes) (decimal_digit d c.in_ok-first.ensures.some.1)) in
    let whole : c.args.text.now ≡ decimal c.from.result ++ bytes = text ∙ ap (λ (k : ℕ). decimal k ++ bytes) (sym c.from.ensures) in
    IfSome_then c.digits_on.result c.digits_on.ensures.some (λ found e. whole ∙ e)

pub returns-then-first-ne0-clause-none : goal.returns-then-first-ne0-clause-none
returns-then-first-ne0-clause-none c =
    IfNone_then c.digits_on.result c.digits_on.ensures.none
    (λ big n rest small end e. no_decimal-big c.args.text.now c.in_ok-byte.byte c.in_ok-first.first c.in_ok-byte.rest.now rest n c.in_ok-byte.ensures c.in_ok-first.ensures.some.0 c.in_ok-first.ensures.some.1 (rw c.from.ensures at big) small end e)

pub returns-then-begins_with_digit-clause-none : goal.returns-then-begins_with_digit-clause-none
returns-then-begins_with_digit-clause-none c = λ n rest small end e.
    no_decimal-zero c.args.text.now c.in_ok-byte.byte c.in_ok-byte.rest.now rest n c.in_ok-byte.ensures (omega (arith, c.in_ok-first.ensures.some.0)) c.if-begins_with_digit.ensures small end e

pub returns-clause-some : goal.returns-clause-some
returns-clause-some c =
    let first : c.in_ok-byte.byte ≡ 48 + 0 = omega (arith, c.in_ok-first.ensures.some.0) in
    c.in_ok-byte.ensures ∙ ap (λ (b : ℕ). b ∷ c.in_ok-byte.rest.now) first ∙ sym (ap (λ (ds : List ℕ). ds ++ c.in_ok-byte.rest.now) (decimal_digit 0 (omega arith)))
