use Rattle.std.proofs.Common.{sym, ◌∙◌}
use Rattle.eq_first.proofs.Sentences.{marks_counted}
use Rattle.eq_first.proofs.sentence.marks.Goals as goal

pub returns : goal.returns
returns c = c.count_marks.ensures ∙ sym (marks_counted c.args.tokens.now)
