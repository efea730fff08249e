use Rattle.eq_wit.proofs.Outcomes.{outcomes}
use Rattle.eq_wit.proofs.laws.outcomes_are_evidence.Goals as goal

pub returns : goal.returns
returns c = outcomes
