use Rattle.std.proofs.Common.{◌≡◌, ℕ, List, [], get_or, sym, ap, ◌∙◌}
use Rattle.std.specs.Prelude.{codes}
use Rattle.eq_wit.specs.declared.state.Due.TheVariants.{Run as a_run}
use Rattle.eq_wit.proofs.Divisions.{same_bytes}
use Rattle.eq_wit.proofs.QuestionLemmas.{run_form, wrong_cycles}
use Rattle.eq_wit.proofs.questions.shown.Goals as goal

pub returns-in-None : goal.returns-in-None
returns-in-None c =
    let ws = c.args.words.now in
    let third : c.args.third.now ≡ codes "sat" =
    same_bytes c.args.third.now c.as_slice.result.now (sym c.if-ne.ensures) ∙ c.as_slice.ensures in
    wrong_cycles c.args.part.now ws c.args.second.now c.wrong_from.result c.in-Some.query a_run
    (ap (λ (xs : List (List ℕ)). get_or xs 1 []) c.requires.words) c.requires.may tt c.in-None.ensures
    (λ names. run_form c.in-Some.query ws c.args.first.now c.args.second.now c.args.third.now c.requires.words
    c.in-Some.ensures third names) c.wrong_from.ensures
