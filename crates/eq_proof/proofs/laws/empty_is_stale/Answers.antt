use Rattle.eq_proof.proofs.Staleness.{empty_stale as law}
use Rattle.eq_proof.proofs.laws.empty_is_stale.Goals as goal

pub returns : goal.returns
returns c = law
