use Rattle.std.proofs.Common.{◌∷◌, sym, ◌∙◌}
use Rattle.eq_proof.proofs.Numerals.{IfNone_match}
use Rattle.eq_proof.proofs.FormulaTexts.{one_clause, clause_line-append}
use Rattle.eq_proof.proofs.dimacs.line_of.Goals as goal

pub returns-clause-none : goal.returns-clause-none
returns-clause-none c = IfNone_match _ c.behind.result c.behind.ensures (λ none clause rest fits e.
    let lits = c.read_clause.new.lits.items in
    let read = rw c.in-Some.is at c.in_ok-rest.ensures.clause in
    let own = rw c.in-Some.is at c.in_ok-rest.ensures.fits in
    none rest (one_clause c.args.most c.requires lits clause c.in-Some.rest.now (10 ∷ rest) own fits (sym read ∙ e ∙ clause_line-append clause rest)).1)
