use Rattle.eq_proof.proofs.Staleness.{superset_stale as law}
use Rattle.eq_proof.proofs.laws.superset_is_stale.Goals as goal

pub returns : goal.returns
returns c = law
