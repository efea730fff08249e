use Rattle.std.proofs.Common.{◌≡◌, arith, sym, ◌∙◌}
use Rattle.std.proofs.lemmas.Fmt.{decimal_injective}
use Rattle.eq_wit.proofs.numeral.short_number.Goals as goal

pub returns-else-number-le4294967295-clause-none : goal.returns-else-number-le4294967295-clause-none
returns-else-number-le4294967295-clause-none c = λ n small e.
    let same : c.in_ok-number.number ≡ n = decimal_injective c.in_ok-number.number n (omega arith) (omega (arith, small))
    (sym c.in_ok-number.ensures.some ∙ e) in
    omega (arith, same, small)
