use Rattle.eq_induct.proofs.Verdicts.{verdict_says}
use Rattle.eq_induct.proofs.laws.a_verdict_is_induction.Goals as goal

pub returns : goal.returns
returns c = verdict_says c.an_attempt_is_induction.ensures
