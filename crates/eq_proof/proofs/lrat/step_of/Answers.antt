use Rattle.std.proofs.Common.{◌≡◌, ◌∷◌, ◌++◌, arith, sym, ◌∙◌}
use Rattle.eq_proof.specs.Text.{number_words}
use Rattle.eq_proof.proofs.Numerals.{IfNone_match}
use Rattle.eq_proof.proofs.LogTexts.{behind_number, behind_clause, behind_numbers}
use Rattle.eq_proof.proofs.lrat.step_of.Goals as goal

pub returns-then-found-number-clause-none : goal.returns-then-found-number-clause-none
returns-then-found-number-clause-none c = λ step more fits e.
    c.if-found-number.true (behind_number c.in-Some.found c.args.number step c.args.text.now c.in-Some.rest.now more c.in-Some.ensures.fits (omega arith) c.in-Some.ensures.some e).0

pub returns-in_default-2-clause-none : goal.returns-in_default-2-clause-none
returns-in_default-2-clause-none c = λ step more fits e.
    let number = behind_number c.in-Some.found c.args.number step c.args.text.now c.in-Some.rest.now more c.in-Some.ensures.fits (omega arith) c.in-Some.ensures.some e in
    let none = rw c.in_default-2.is at c.in_ok-rest.ensures.none in
    none step.clause (32 ∷ (number_words step.ants ++ 10 ∷ more)) fits.clause number.1

pub returns-in_default-behind-clause-none : goal.returns-in_default-behind-clause-none
returns-in_default-behind-clause-none c = λ step more fits e.
    let number = behind_number c.in-Some.found c.args.number step c.args.text.now c.in-Some.rest.now more c.in-Some.ensures.fits (omega arith) c.in-Some.ensures.some e in
    let read = rw c.in-Some-2.is at c.in_ok-rest.ensures.clause in
    let own = rw c.in-Some-2.is at c.in_ok-rest.ensures.fits in
    let clause = behind_clause c.read_clause.new.lits.items step.clause c.in-Some-2.rest.now (32 ∷ (number_words step.ants ++ 10 ∷ more)) own fits.clause (sym read ∙ number.1) in
    c.in_default-behind.ensures (number_words step.ants ++ 10 ∷ more) clause.1

pub returns-in_default-3-clause-none : goal.returns-in_default-3-clause-none
returns-in_default-3-clause-none c = λ step more fits e.
    let number = behind_number c.in-Some.found c.args.number step c.args.text.now c.in-Some.rest.now more c.in-Some.ensures.fits (omega arith) c.in-Some.ensures.some e in
    let read = rw c.in-Some-2.is at c.in_ok-rest.ensures.clause in
    let own = rw c.in-Some-2.is at c.in_ok-rest.ensures.fits in
    let clause = behind_clause c.read_clause.new.lits.items step.clause c.in-Some-2.rest.now (32 ∷ (number_words step.ants ++ 10 ∷ more)) own fits.clause (sym read ∙ number.1) in
    let blank : 32 ∷ c.in-Some-behind.rest.now ≡ 32 ∷ (number_words step.ants ++ 10 ∷ more) = sym c.in-Some-behind.ensures ∙ clause.1 in
    let none = rw c.in_default-3.is at c.in_ok-rest-2.ensures.none in
    none step.ants (10 ∷ more) fits.ants (cc (blank))

pub returns-clause-none : goal.returns-clause-none
returns-clause-none c = IfNone_match _ c.behind-2.result c.behind-2.ensures (λ none step more fits e.
    let number = behind_number c.in-Some.found c.args.number step c.args.text.now c.in-Some.rest.now more c.in-Some.ensures.fits (omega arith) c.in-Some.ensures.some e in
    let read = rw c.in-Some-2.is at c.in_ok-rest.ensures.clause in
    let own = rw c.in-Some-2.is at c.in_ok-rest.ensures.fits in
    let clause = behind_clause c.read_clause.new.lits.items step.clause c.in-Some-2.rest.now (32 ∷ (number_words step.ants ++ 10 ∷ more)) own fits.clause (sym read ∙ number.1) in
    let blank : 32 ∷ c.in-Some-behind.rest.now ≡ 32 ∷ (number_words step.ants ++ 10 ∷ more) = sym c.in-Some-behind.ensures ∙ clause.1 in
    let read_ants = rw c.in-Some-3.is at c.in_ok-rest-2.ensures.numbers in
    let own_ants = rw c.in-Some-3.is at c.in_ok-rest-2.ensures.fits in
    none more (behind_numbers c.read_numbers.new.numbers.items step.ants c.in-Some-3.rest.now (10 ∷ more) own_ants fits.ants (sym read_ants ∙ cc (blank))).1)
