use Rattle.eq_first.proofs.Modules.{well_formed}
use Rattle.eq_first.proofs.laws.well_formed.Goals as goal

pub returns : goal.returns
returns c = well_formed
