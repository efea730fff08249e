use Rattle.std.proofs.Common.{◌≡◌, ◌∷◌, ◌++◌, drop, arith, sym, ap, ◌∙◌}
use Rattle.std.specs.Fmt.{decimal}
use Rattle.eq_proof.proofs.WordLists.{one_number}
use Rattle.eq_proof.proofs.FormulaTexts.{header_line-append}
use Rattle.eq_proof.proofs.dimacs.header.Goals as goal

pub returns-then-vars-from-clause-none : goal.returns-then-vars-from-clause-none
returns-then-vars-from-clause-none c = λ vars count rest fits small e.
    let numbers : c.in_ok-numbers.numbers.now ≡ decimal vars ++ 32 ∷ (decimal count ++ 10 ∷ rest) = c.in_ok-numbers.ensures.cases.1 ∙ ap (drop 6) (e ∙ header_line-append vars count rest) in
    let same = (one_number c.in_ok-vars.vars vars c.in_ok-vars.rest.now (decimal count ++ 10 ∷ rest) c.in_ok-vars.ensures.fits (omega arith) (sym c.in_ok-vars.ensures.some ∙ numbers)).0 in
    omega (arith, c.if-vars-from.true, c.from.ensures)

pub returns-in_err-count-clause-none : goal.returns-in_err-count-clause-none
returns-in_err-count-clause-none c = rw c.from_residual-in_err-count.ensures (λ vars count rest fits small e.
    let numbers : c.in_ok-numbers.numbers.now ≡ decimal vars ++ 32 ∷ (decimal count ++ 10 ∷ rest) = c.in_ok-numbers.ensures.cases.1 ∙ ap (drop 6) (e ∙ header_line-append vars count rest) in
    let both = one_number c.in_ok-vars.vars vars c.in_ok-vars.rest.now (decimal count ++ 10 ∷ rest) c.in_ok-vars.ensures.fits (omega arith) (sym c.in_ok-vars.ensures.some ∙ numbers) in
    c.in_err-count.ensures.none count rest small both.1)
