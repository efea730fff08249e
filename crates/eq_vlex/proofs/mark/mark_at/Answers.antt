use Rattle.std.proofs.Common.{◌∙◌, ap}
use Rattle.eq_vlex.specs.Marks as spec
use Rattle.eq_vlex.proofs.Tables.{marks_are, mark_within}
use Rattle.eq_vlex.proofs.mark.mark_at.Goals as goal

pub returns-clause-value : goal.returns-clause-value
unfolding spec.mark_at
returns-clause-value c = c.first_row.ensures ∙ ap (λ rows. spec.first_row rows c.args.text.now) marks_are

pub returns-clause-within : goal.returns-clause-within
returns-clause-within c = mark_within c.args.text.now _ (c.first_row.ensures ∙ ap (λ rows. spec.first_row rows c.args.text.now) marks_are)
