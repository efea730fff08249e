use Rattle.std.proofs.Common.{refl, ap, ◌∙◌}
use Rattle.eq_wit.specs.declared.state.Open.{Open}
use Rattle.eq_wit.specs.inner.Items.{question_line}
use Rattle.eq_wit.specs.inner.Reading.{behind_query}
use Rattle.eq_wit.proofs.AnswerLemmas.{follows_query, stopped_query}
use Rattle.eq_wit.proofs.answering.one_query.Goals as goal

pub returns-in_ok-behind_query-in-Ok-clause-judges : goal.returns-in_ok-behind_query-in-Ok-clause-judges
returns-in_ok-behind_query-in-Ok-clause-judges c =
    let a = c.in-Ok.asked in (
      question_line a,
      follows_query c.args.tally c.args.attempt c.args.attempt.left a c.in_ok-behind_query-in-Ok.field-0
          c.requires.some refl
          c.in-Ok.ensures.fits (c.in_ok-behind_query-in-Ok.ensures.next
          ∙ ap (λ (o : Open). behind_query c.args.tally o a.query a.k a.due) c.one_less.ensures),
      c.in-Ok.ensures.words,
    )

pub returns-in-Err-clause-judges : goal.returns-in-Err-clause-judges
returns-in-Err-clause-judges c = stopped_query c.args.tally c.args.attempt c.args.attempt.left c.args.words.now c.in-Err.stop
    c.requires.some refl c.in-Err.ensures
