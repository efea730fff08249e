use Rattle.eq_spelled.proofs.Sources.{text_spelled}
use Rattle.eq_spelled.proofs.laws.texts_are_spelled.Goals as goal

pub returns : goal.returns
returns c = text_spelled
