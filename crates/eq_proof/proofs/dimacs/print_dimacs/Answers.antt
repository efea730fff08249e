use Rattle.std.proofs.Common.{◌≤◌, ℕ, List, ◌++◌, length, take, arith, sym, ap, ◌∙◌, append_assoc, subst}
use Rattle.std.specs.Prelude.{All}
use Rattle.std.specs.List.{flat_map}
use Rattle.std.proofs.lemmas.List.{take_all}
use Rattle.eq_proof.specs.Literal.{Literal}
use Rattle.eq_proof.specs.Text.{IsClauseUpTo}
use Rattle.eq_proof.specs.Dimacs.{header_line, clause_line, highest_of}
use Rattle.eq_proof.proofs.FormulaTexts.{fits_more}
use Rattle.eq_proof.proofs.Lines.{flat_map_at}
use Rattle.eq_proof.proofs.dimacs.print_dimacs.Goals as goal

pub loop-place-preserved : goal.loop-place-preserved
loop-place-preserved c =
    let inv = c.loop-place.invariant in
    let clauses = c.args.f.now.clauses in
    let place = c.loop-place.place in
    let clause : List Literal = c.at.result.now in
    let head = header_line c.args.f.now.vars (length clauses) in
    let line : List ℕ = clause_line clause in
    record {
      text =
          c.in_ok-push_line.ensures.text ∙ ap (λ (t : List ℕ). t ++ line) inv.text ∙ append_assoc head (flat_map clause_line (take place clauses)) line
          ∙ ap (λ (t : List ℕ). head ++ t) (sym (flat_map_at clause_line clauses place clause c.at.ensures.clause));
      fits = fits_more c.args.f.now.vars clauses place clause c.at.ensures.clause c.at.ensures.ordered c.in_ok-push_line.ensures.range c.args.f.now.within inv.fits;
    }

pub returns-clause-formula : goal.returns-clause-formula
returns-clause-formula c =
    let P : List (List Literal) → Type 0 = All (IsClauseUpTo (highest_of c.args.f.now.vars)) in
    let clauses = c.args.f.now.clauses in
    let end : length clauses ≤ c.loop-place.place = omega arith in
    record {
      vars_fit = omega arith;
      count_fits = omega arith;
      clauses_fit = subst P (take_all c.loop-place.place clauses end) c.loop-place.invariant.fits;
    }
