use Rattle.std.proofs.Common.{arith, sym, ◌∙◌}
use Rattle.eq_wit.proofs.StepLemmas.{negative_word}
use Rattle.eq_wit.proofs.steps.literal.Goals as goal

pub returns-in_err-var-in-Some : goal.returns-in_err-var-in-Some
returns-in_err-var-in-Some c =
    rw c.from_residual.ensures (λ l fits e. c.in_err-var-in-Some.ensures l.var fits.0 fits.1
    (negative_word l.positive l.var c.in-Some.digits.now (omega (arith, fits.1)) (sym c.in-Some.ensures ∙ e)))
