use Rattle.std.proofs.Common.{◌≡◌, ◌≢◌, ℕ, ◌+◌, List, [], ◌∷◌, ◌++◌, length, arith, refl, sym, ap, ◌∙◌, subst}
use Rattle.std.specs.Prelude.{All}
use Rattle.std.proofs.lemmas.Bool.Decides.{nat_tests}
use Rattle.std.proofs.lemmas.List.{length-append, length_push}
use Rattle.std.proofs.lemmas.List.Elements.{All-push}
use Rattle.eq_proof.specs.Literal.{Literal}
use Rattle.eq_proof.specs.Text.{IsClauseUpTo, clause_words}
use Rattle.eq_proof.specs.Dimacs.{clause_line, IsStop}
use Rattle.eq_proof.proofs.FormulaTexts.{stop_no_clause, stop_too_many, read_more}
use Rattle.eq_proof.proofs.dimacs.clauses_of.Goals as goal

pub returns-in_default-clause-bad_line : goal.returns-in_default-clause-bad_line
returns-in_default-clause-bad_line c = λ line e.
    let inv = c.loop-done.invariant in
    let P : ℕ → Type 0 = λ most. IsStop most c.args.count c.args.text.now line in
    let line-is : c.loop-done.done + 2 ≡ line = cc (e) in
    let none = rw c.in_default.is at c.in_ok-after.ensures.none in
    subst P c.min-most.ensures
    (stop_no_clause c.min-most.result c.args.count c.loop-done.done line c.args.text.now c.loop-done.rest.now c.loop-done.clauses inv.read inv.counted c.loop-done-test.true (sym line-is) inv.fits none)

pub loop-done-preserved : goal.loop-done-preserved
loop-done-preserved c =
    let inv = c.loop-done.invariant in
    let lits : List Literal = c.line_of.new.lits.items in
    let after : List ℕ = c.in-Some.after.now in
    let line = rw c.in-Some.is at c.in_ok-after.ensures.clause in
    let own = rw c.in-Some.is at c.in_ok-after.ensures.fits in
    let pushed : c.push_lits.new.self ≡ c.loop-done.clauses ++ lits ∷ [] = c.in_ok-push_lits.ensures.ok ∙ ap (λ (l : List Literal). c.loop-done.clauses ++ l ∷ []) c.as_slice.ensures.value in
    let P : List (List Literal) → Type 0 = All (IsClauseUpTo c.min-most.result) in
    record {
      read = read_more c.loop-done.clauses c.push_lits.new.self lits lits c.args.text.now c.loop-done.rest.now after inv.read line refl pushed;
      counted = ap length pushed ∙ length_push c.loop-done.clauses lits ∙ ap (λ (n : ℕ). n + 1) inv.counted;
      short = omega (arith, inv.short, ap length line, length-append (clause_line lits) after, length-append (clause_words lits) (10 ∷ []));
      fits = subst P (sym pushed) (All-push (IsClauseUpTo c.min-most.result) c.loop-done.clauses lits inv.fits own);
    }

pub returns-then-not-is_empty-clause-bad_line : goal.returns-then-not-is_empty-clause-bad_line
returns-then-not-is_empty-clause-bad_line c = λ line e.
    let inv = c.loop-done.invariant in
    let P : ℕ → Type 0 = λ most. IsStop most c.args.count c.args.text.now line in
    let line-is : c.args.count + 2 ≡ line = cc (e) in
    let more : c.loop-done.rest.now ≢ [] = λ none. let empty : length c.loop-done.rest.now ≡ 0 = ap length none in grind (arith, nat_tests, c.is_empty.ensures, c.if-not-is_empty.true) in
    subst P c.min-most.ensures
    (stop_too_many c.min-most.result c.args.count c.loop-done.done line c.args.text.now c.loop-done.rest.now c.loop-done.clauses inv.read inv.counted (omega arith) (sym line-is) inv.fits more)

pub returns-clause-fits : goal.returns-clause-fits
returns-clause-fits c =
    let P : ℕ → Type 0 = λ most. All (IsClauseUpTo most) c.loop-done.clauses in
    subst P c.min-most.ensures c.loop-done.invariant.fits
