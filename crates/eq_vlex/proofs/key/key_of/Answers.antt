use Rattle.std.proofs.Common.{◌∙◌, ap}
use Rattle.eq_vlex.specs.Words as spec
use Rattle.eq_vlex.proofs.Tables.{keywords_are}
use Rattle.eq_vlex.proofs.key.key_of.Goals as goal

pub returns : goal.returns
unfolding spec.key_of
returns c = c.looked_up.ensures ∙ ap (λ rows. spec.looked_up rows c.args.word.now) keywords_are
