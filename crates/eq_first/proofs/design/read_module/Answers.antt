use Rattle.std.proofs.Common.{◌≡◌, List, subst, ap}
use Rattle.std.specs.Prelude.{IfOk}
use Rattle.eq_first.specs.Lexing.{tokens_in}
use Rattle.eq_first.specs.Tokens.{Token}
use Rattle.eq_first.specs.Sentence.{module_at}
use Rattle.eq_first.proofs.Modules.{answers_some, answers_none, answers_well, tokens_of_some}
use Rattle.eq_first.proofs.design.read_module.Goals as goal

pub returns-in-Some-clause-some : goal.returns-in-Some-clause-some
returns-in-Some-clause-some c =
    let P : List Token → Type 0 = λ ts. IfOk c.module.result (λ o. o ≡ module_at c.args.top.now ts) in
    answers_some c.args.text.now c.args.top.now (tokens_in c.in-Some.tokens.items) c.module.result (tokens_of_some c.args.text.now _ c.in-Some.tokens c.in_ok-tokens.ensures.some c.in-Some.is) (subst P (ap tokens_in c.as_slice.ensures.value) c.module.ensures)

pub returns-in-Some-clause-none : goal.returns-in-Some-clause-none
returns-in-Some-clause-none c =
    let P : List Token → Type 0 = λ ts. IfOk c.module.result (λ o. o ≡ module_at c.args.top.now ts) in
    answers_none c.args.text.now c.args.top.now (tokens_in c.in-Some.tokens.items) c.module.result (tokens_of_some c.args.text.now _ c.in-Some.tokens c.in_ok-tokens.ensures.some c.in-Some.is) (subst P (ap tokens_in c.as_slice.ensures.value) c.module.ensures)

pub returns-in-Some-clause-well_formed : goal.returns-in-Some-clause-well_formed
returns-in-Some-clause-well_formed c =
    let P : List Token → Type 0 = λ ts. IfOk c.module.result (λ o. o ≡ module_at c.args.top.now ts) in
    answers_well c.args.top.now (tokens_in c.in-Some.tokens.items) c.module.result (subst P (ap tokens_in c.as_slice.ensures.value) c.module.ensures)
