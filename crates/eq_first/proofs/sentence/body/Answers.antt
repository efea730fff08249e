use Rattle.std.proofs.Common.{sym, ap, ◌∙◌}
use Rattle.std.specs.Prelude.{option_map}
use Rattle.eq_first.proofs.Sentences.{body_found, body_none}
use Rattle.eq_first.proofs.sentence.body.Goals as goal

pub returns-in_err-at : goal.returns-in_err-at
returns-in_err-at c = ap (option_map _) c.from_residual.ensures ∙ sym (body_none c.args.tokens.now c.in_err-at.ensures)

pub returns : goal.returns
returns c = body_found c.args.tokens.now c.in_ok-at.at c.in_ok-at.ensures
