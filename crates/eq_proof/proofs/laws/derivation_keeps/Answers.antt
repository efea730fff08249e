use Rattle.eq_proof.proofs.Soundness.{derivation_keeps as law}
use Rattle.eq_proof.proofs.laws.derivation_keeps.Goals as goal

pub returns : goal.returns
returns c = law
