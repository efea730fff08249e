use Rattle.std.proofs.Common.{◌∷◌, ◌∙◌, sym, arith}
use Rattle.eq_proof.proofs.Numerals.{one_decimal, EndsDigits-below}
use Rattle.eq_proof.proofs.numeral.number_before.Goals as goal

pub returns-in_err-behind-clause-none : goal.returns-in_err-behind-clause-none
returns-in_err-behind-clause-none c =
    rw c.from_residual-in_err-behind.ensures (λ n rest small e.
    c.in_err-behind.ensures rest (one_decimal c.in_ok-number.number n c.in_ok-number.rest.now (c.args.end ∷ rest) c.in_ok-number.ensures.fits small c.in_ok-number.ensures.end (EndsDigits-below c.args.end rest (omega arith)) (sym c.in_ok-number.ensures.some ∙ e)).1)
