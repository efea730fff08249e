use Rattle.eq_wit.proofs.OneEvidence.{one_evidence}
use Rattle.eq_wit.proofs.laws.one_evidence.Goals as goal

pub returns : goal.returns
returns c = one_evidence
