use Rattle.std.proofs.Common.{◌≡◌, ℕ, ◌+◌, ◌*◌, List, ◌∷◌, ◌++◌, ap, ◌∙◌, sym, arith}
use Rattle.std.proofs.lemmas.Option.{IfSome_then}
use Rattle.std.specs.Fmt.{decimal}
use Rattle.eq_wit.specs.inner.Numeral.{value_on}
use Rattle.eq_wit.proofs.Numerals.{value_on-step, value_on-le, decimal-more}
use Rattle.eq_wit.proofs.numeral.+digits_on.Goals as goal

pub returns-in_err-with_digit-in-Some-digit-clause-none : goal.returns-in_err-with_digit-in-Some-digit-clause-none
returns-in_err-with_digit-in-Some-digit-clause-none t c =
    let d = c.in-Some-digit.digit in
    let bytes = c.in-Some.rest.now in
    let step = ap (value_on c.args.number) c.in-Some.ensures ∙ value_on-step c.args.number c.in-Some.byte d bytes c.in-Some-digit.ensures.some.0 c.in-Some-digit.ensures.some.1 in
    rw c.from_residual.ensures (omega (arith, step, value_on-le (10 * c.args.number + d) bytes, c.in_err-with_digit-in-Some-digit.ensures.none))

pub returns-in_ok-with_digit-in-Some-digit-clause-some : goal.returns-in_ok-with_digit-in-Some-digit-clause-some
returns-in_ok-with_digit-in-Some-digit-clause-some t c =
    let n = c.args.number in
    let d = c.in-Some-digit.digit in
    let bytes = c.in-Some.rest.now in
    let same : c.in_ok-with_digit-in-Some-digit.field-0 ≡ 10 * n + d = c.in_ok-with_digit-in-Some-digit.ensures.some in
    let text : decimal n ++ c.args.text.now ≡ decimal n ++ (48 + d) ∷ bytes = ap (λ (x : List ℕ). decimal n ++ x) c.in-Some.ensures ∙ ap (λ (b : ℕ). decimal n ++ b ∷ bytes) c.in-Some-digit.ensures.some.0 in
    let more = decimal-more n d bytes c.requires c.in-Some-digit.ensures.some.1 (omega (arith, same)) in
    let whole : decimal n ++ c.args.text.now ≡ decimal c.in_ok-with_digit-in-Some-digit.field-0 ++ bytes = text ∙ sym more ∙ ap (λ (k : ℕ). decimal k ++ bytes) (sym same) in
    IfSome_then c.digits_on.result c.digits_on.ensures.some (λ found e. whole ∙ e)
