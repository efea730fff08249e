use Rattle.std.proofs.Common.{◌≡◌, ℕ, ◌+◌, ◌-◌, ◌^◌, List, [], ◌∷◌, ◌++◌, Option, map, sym, ap, ◌∙◌, subst}
use Rattle.std.specs.Prelude.{All, IfSome, IsTrue, codes, drop}
use Rattle.std.specs.Fmt.{decimal}
use Rattle.eq_proof.specs.Literal.{Literal}
use Rattle.eq_proof.specs.Text.{IsClauseUpTo, IsUpTo, literal_word}
use Rattle.eq_wit.specs.inner.Items.{IsFrom, step_words}
use Rattle.eq_wit.proofs.StepLemmas.{ends_with, if_ok, literal_not_zero, one_literal}
use Rattle.eq_wit.proofs.steps.is_step.Goals as goal

pub returns-in-Some-clause-no : goal.returns-in-Some-clause-no
returns-in-Some-clause-no c =
    let ws = c.args.words.now in
    let n = c.args.n in
    let lits = c.clause.new.lits.items in
    let place = c.in-Some.place in
    let P : Option ℕ → Type 0 = λ f. IfSome f (λ place. drop 1 ws ≡ map literal_word lits ++ codes "0" ∷ drop
    (place + 1) ws) in
    let Q : Option ℕ → Type 0 = λ f. IfSome f (λ _. IsClauseUpTo (2 ^ 31 - 1) lits) in
    let read = subst P c.in-Some.is c.in_ok-place.ensures.some in
    let up = subst Q c.in-Some.is c.in_ok-place.ensures.fits in
    if_ok c.antecedents.result
    (λ found. (ants : List ℕ) → All (IsFrom n) ants → drop (place + 1) ws ≡ map decimal ants ++ codes "0" ∷ [] →
    IsTrue found)
    (λ found. (clause : List Literal) (ants : List ℕ) → IsClauseUpTo (2 ^ 31 - 1) clause → All (IsFrom n) ants →
    step_words n clause ants ≡ ws → IsTrue found)
    (λ found no clause ants fits all e.
    let same = ends_with literal_word (IsUpTo (2 ^ 31 - 1)) one_literal literal_not_zero lits clause (drop
    (place + 1) ws)
    (map decimal ants ++ codes "0" ∷ []) up.within fits.within (sym read ∙ sym (ap (drop 1) e)) in
    no ants all same.1)
    c.antecedents.ensures.no
