use Rattle.std.proofs.Common.{◌≡◌, get_or, sym, subst, ap}
use Rattle.std.specs.Prelude.{IfOk, IfErr}
use Rattle.eq_config.specs.Lines.{words}
use Rattle.eq_config.specs.Forms.{form_says, FormFault}
use Rattle.eq_config.specs.inner.Stopping.{Stops, IsFine}
use Rattle.eq_config.proofs.FormLemmas.{form_none, form_comment, form_heading, form_plain}
use Rattle.eq_config.proofs.line.line.Goals as goal

pub returns-in_default-clause-says : goal.returns-in_default-clause-says
returns-in_default-clause-says c = ap (form_says c.args.number c.args.section) (sym (form_none c.args.line.now c.in_default.ensures.word))

pub returns-in_default-clause-ok : goal.returns-in_default-clause-ok
returns-in_default-clause-ok c = subst (λ f. IsFine c.args.section f) (sym (form_none c.args.line.now c.in_default.ensures.word)) (λ kind h. h)

pub returns-then-begins_with-clause-says : goal.returns-then-begins_with-clause-says
returns-then-begins_with-clause-says c =
    ap (form_says c.args.number c.args.section)
    (sym (form_comment c.args.line.now c.in-Some.word.now (words c.in-Some.rest.now) c.in-Some.ensures.word (c.begins_with.ensures.0 c.if-begins_with.true)))

pub returns-then-begins_with-clause-ok : goal.returns-then-begins_with-clause-ok
returns-then-begins_with-clause-ok c =
    subst (λ f. IsFine c.args.section f)
    (sym (form_comment c.args.line.now c.in-Some.word.now (words c.in-Some.rest.now) c.in-Some.ensures.word (c.begins_with.ensures.0 c.if-begins_with.true)))
    (λ kind h. h)

pub returns-in-Some-heading_text-clause-says : goal.returns-in-Some-heading_text-clause-says
returns-in-Some-heading_text-clause-says c =
    let speaks : get_or c.in-Some.word.now 0 0 ≡ 35 → ⊥ = λ e. let yes' = c.begins_with.ensures.1 e in absurd (cc) in
    let form = form_heading c.args.line.now c.in-Some.word.now c.in-Some-heading_text.inner.now (words c.in-Some.rest.now) c.in-Some.ensures.word speaks (sym c.in-Some-heading_text.ensures.inner) in
    subst (λ f. IfOk c.heading_line.result (λ said. said ≡ form_says c.args.number c.args.section f)) (sym form) c.heading_line.ensures.says

pub returns-in-Some-heading_text-clause-ok : goal.returns-in-Some-heading_text-clause-ok
returns-in-Some-heading_text-clause-ok c =
    let speaks : get_or c.in-Some.word.now 0 0 ≡ 35 → ⊥ = λ e. let yes' = c.begins_with.ensures.1 e in absurd (cc) in
    let form = form_heading c.args.line.now c.in-Some.word.now c.in-Some-heading_text.inner.now (words c.in-Some.rest.now) c.in-Some.ensures.word speaks (sym c.in-Some-heading_text.ensures.inner) in
    subst (λ f. IfOk c.heading_line.result (λ _. IsFine c.args.section f)) (sym form) c.heading_line.ensures.ok

pub returns-in-Some-heading_text-clause-fault : goal.returns-in-Some-heading_text-clause-fault
returns-in-Some-heading_text-clause-fault c =
    let speaks : get_or c.in-Some.word.now 0 0 ≡ 35 → ⊥ = λ e. let yes' = c.begins_with.ensures.1 e in absurd (cc) in
    let form = form_heading c.args.line.now c.in-Some.word.now c.in-Some-heading_text.inner.now (words c.in-Some.rest.now) c.in-Some.ensures.word speaks (sym c.in-Some-heading_text.ensures.inner) in
    subst (λ f. IfErr c.heading_line.result (Stops (FormFault c.args.section f))) (sym form) c.heading_line.ensures.fault

pub returns-in-None-clause-says : goal.returns-in-None-clause-says
returns-in-None-clause-says c =
    let speaks : get_or c.in-Some.word.now 0 0 ≡ 35 → ⊥ = λ e. let yes' = c.begins_with.ensures.1 e in absurd (cc) in
    let form = form_plain c.args.line.now c.in-Some.word.now (words c.in-Some.rest.now) c.in-Some.ensures.word speaks (sym c.in-None.ensures.inner) in
    subst (λ f. IfOk c.plain_line.result (λ said. said ≡ form_says c.args.number c.args.section f)) (sym form) c.plain_line.ensures.says

pub returns-in-None-clause-ok : goal.returns-in-None-clause-ok
returns-in-None-clause-ok c =
    let speaks : get_or c.in-Some.word.now 0 0 ≡ 35 → ⊥ = λ e. let yes' = c.begins_with.ensures.1 e in absurd (cc) in
    let form = form_plain c.args.line.now c.in-Some.word.now (words c.in-Some.rest.now) c.in-Some.ensures.word speaks (sym c.in-None.ensures.inner) in
    subst (λ f. IfOk c.plain_line.result (λ _. IsFine c.args.section f)) (sym form) c.plain_line.ensures.ok

pub returns-in-None-clause-fault : goal.returns-in-None-clause-fault
returns-in-None-clause-fault c =
    let speaks : get_or c.in-Some.word.now 0 0 ≡ 35 → ⊥ = λ e. let yes' = c.begins_with.ensures.1 e in absurd (cc) in
    let form = form_plain c.args.line.now c.in-Some.word.now (words c.in-Some.rest.now) c.in-Some.ensures.word speaks (sym c.in-None.ensures.inner) in
    subst (λ f. IfErr c.plain_line.result (Stops (FormFault c.args.section f))) (sym form) c.plain_line.ensures.fault
