use Rattle.std.proofs.Common.{arith, sym, ◌∙◌}
use Rattle.eq_proof.proofs.WordLists.{behind_minus}
use Rattle.eq_proof.proofs.words.literal.Goals as goal

pub returns-in_err-var-in-Some-clause-none : goal.returns-in_err-var-in-Some-clause-none
returns-in_err-var-in-Some-clause-none c =
    rw c.from_residual.ensures (λ l rest fits e.
    c.in_err-var-in-Some.ensures.none l.var rest fits.0 fits.1 (behind_minus l.positive l.var c.in-Some.digits.now rest (omega (arith, fits.1)) (sym c.in-Some.ensures ∙ e)))
