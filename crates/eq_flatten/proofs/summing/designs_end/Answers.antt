use Rattle.eq_flatten.proofs.Ending.{design_ends}
use Rattle.eq_flatten.proofs.summing.designs_end.Goals as goal

pub returns : goal.returns
returns c all top m is fine = design_ends all top m is fine
