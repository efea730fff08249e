use Rattle.eq_model.proofs.DesignTrials.{clocked_is, unclocked_is}
use Rattle.eq_model.proofs.examples.designs.nets_of_a_design.Goals as goal

pub returns-clause-clocked : goal.returns-clause-clocked
returns-clause-clocked c = clocked_is

pub returns-clause-unclocked : goal.returns-clause-unclocked
returns-clause-unclocked c = unclocked_is
