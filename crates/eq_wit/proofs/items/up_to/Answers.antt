use Rattle.std.proofs.Common.{◌≡◌, arith, sym, ◌∙◌}
use Rattle.std.proofs.lemmas.Fmt.{decimal_injective}
use Rattle.eq_wit.proofs.items.up_to.Goals as goal

pub returns-else-number-most : goal.returns-else-number-most
returns-else-number-most c = λ n small e.
    let same : c.in_ok-number.number ≡ n = decimal_injective c.in_ok-number.number n (omega arith) (omega (arith, small))
    (sym c.in_ok-number.ensures.some ∙ e) in
    omega (arith, same, small)
