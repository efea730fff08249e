use Rattle.std.proofs.Common.{◌≡◌, ℕ, List, Err, sym, ap, subst}
use Rattle.std.proofs.lemmas.Result.{err_from_is_err_and}
use Rattle.eq_proof.specs.declared.text.TextErr.TheVariants.{At}
use Rattle.eq_proof.specs.Text.{IsFirstBadLine}
use Rattle.eq_proof.specs.Dimacs.{IsDimacs}
use Rattle.eq_proof.proofs.FormulaTexts.{no_header, stop_is_bad, within_vars}
use Rattle.eq_proof.proofs.dimacs.formula_of.Goals as goal

pub returns-in_default-clause-bad_line : goal.returns-in_default-clause-bad_line
returns-in_default-clause-bad_line c = λ line e.
    let P : ℕ → Type 0 = λ n. IsFirstBadLine IsDimacs c.args.text.now n in
    subst P (cc (e)) (no_header c.args.text.now c.in_default.ensures.none)

pub returns-in_err-clauses-clause-bad_line : goal.returns-in_err-clauses-clause-bad_line
returns-in_err-clauses-clause-bad_line c = λ line e.
    let p = err_from_is_err_and c.from_residual.result c.from_residual.ensures.1 in
    let same : c.in_err-clauses.field-0.0 ≡ At line = cc (p.1, p.2, e) in
    let P : List ℕ → Type 0 = λ text. IsFirstBadLine IsDimacs text line in
    subst P (sym c.in-Some.ensures.some)
    (stop_is_bad c.in-Some.vars c.in-Some.count c.in-Some.rest.now line c.in-Some.ensures.fits.0 c.in-Some.ensures.fits.1 (c.in_err-clauses.ensures.bad_line line (ap (λ err. Err err) same)))

pub invariant_of-result : goal.invariant_of-result
invariant_of-result c = record { within = within_vars c.in-Some.vars _ c.in_ok-clauses.ensures.fits }
