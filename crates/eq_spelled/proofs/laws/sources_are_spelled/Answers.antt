use Rattle.eq_spelled.proofs.Sources.{texts_spelled}
use Rattle.eq_spelled.proofs.laws.sources_are_spelled.Goals as goal

pub returns : goal.returns
returns c = texts_spelled
