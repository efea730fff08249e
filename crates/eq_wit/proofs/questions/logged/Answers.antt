use Rattle.std.proofs.Common.{ℕ, List, [], get_or, arith, ap}
use Rattle.eq_wit.specs.declared.state.Due.TheVariants.{Log as a_log}
use Rattle.eq_wit.proofs.QuestionLemmas.{log_form, no_four, wrong_cycles, wrong_steps}
use Rattle.eq_wit.proofs.questions.logged.Goals as goal

pub returns-in_default-spent : goal.returns-in_default-spent
returns-in_default-spent c =
    no_four c.args.part.now c.args.words.now c.args.first.now c.args.second.now c.args.third.now c.args.fourth.now
    c.requires.words (λ q spent first third. c.in_default-spent.ensures spent third)

pub returns-in_default-cycles : goal.returns-in_default-cycles
returns-in_default-cycles c =
    let ws = c.args.words.now in
    wrong_cycles c.args.part.now ws c.args.second.now c.wrong_from.result c.in-Some.query (a_log c.in-Some-spent.spent 0)
    (ap (λ (xs : List (List ℕ)). get_or xs 1 []) c.requires.words) c.requires.may (omega arith) c.in_default-cycles.ensures
    (λ names. log_form c.in-Some.query c.in-Some-spent.spent ws c.args.first.now c.args.second.now c.args.third.now
    c.args.fourth.now c.requires.words c.in-Some.ensures c.in-Some-spent.ensures names) c.wrong_from.ensures

pub returns-in-None : goal.returns-in-None
returns-in-None c =
    wrong_steps c.args.part.now c.args.words.now c.args.first.now c.args.second.now c.args.third.now c.args.fourth.now
    c.wrong_from-in-None.result c.in-Some.query c.in-Some-spent.spent c.requires.words c.requires.may c.in-Some.ensures
    c.in-Some-spent.ensures c.in-None.ensures.none c.wrong_from-in-None.ensures
