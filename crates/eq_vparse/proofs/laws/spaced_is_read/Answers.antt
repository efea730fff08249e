use Rattle.eq_vparse.proofs.Spaced.{spaced_read}
use Rattle.eq_vparse.proofs.laws.spaced_is_read.Goals as goal

pub returns : goal.returns
returns c = spaced_read
