use Rattle.eq_vparse.proofs.Legible.{legible}
use Rattle.eq_vparse.proofs.laws.legible_is_read.Goals as goal

pub returns : goal.returns
returns c = legible
