use Rattle.eq_proof.proofs.Soundness.{refutation as law}
use Rattle.eq_proof.proofs.laws.empty_refutes.Goals as goal

pub returns : goal.returns
returns c = law
