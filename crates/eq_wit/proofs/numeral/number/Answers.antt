use Rattle.std.proofs.Common.{◌≡◌, [], length, arith, sym, ap, ◌∙◌}
use Rattle.std.specs.Fmt.{decimal}
use Rattle.std.proofs.lemmas.Bool.Decides.{nat_tests}
use Rattle.std.proofs.lemmas.List.{append-nil}
use Rattle.eq_wit.proofs.Numerals.{one_decimal}
use Rattle.eq_wit.proofs.numeral.number.Goals as goal

pub returns-in_err-number-clause-none : goal.returns-in_err-number-clause-none
returns-in_err-number-clause-none c =
    rw c.from_residual.ensures (λ n small e. c.in_err-number.ensures.none n [] small tt (e ∙ sym (append-nil (decimal n))))

pub returns-else-is_empty-clause-none : goal.returns-else-is_empty-clause-none
returns-else-is_empty-clause-none c = λ n small e.
    let same = one_decimal c.in_ok-number.number n c.in_ok-number.rest.now [] c.in_ok-number.ensures.fits small
    c.in_ok-number.ensures.end tt (sym c.in_ok-number.ensures.some ∙ e ∙ sym (append-nil (decimal n))) in
    let none : length c.in_ok-number.rest.now ≡ 0 = ap length same.1 in
    grind (arith, nat_tests, c.is_empty.ensures, c.if-is_empty.false)
