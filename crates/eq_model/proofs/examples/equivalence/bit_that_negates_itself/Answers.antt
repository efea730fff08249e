use Rattle.eq_model.proofs.EquivalenceTrials.{negation_alone}
use Rattle.eq_model.proofs.examples.equivalence.bit_that_negates_itself.Goals as goal

pub returns : goal.returns
returns c = negation_alone
