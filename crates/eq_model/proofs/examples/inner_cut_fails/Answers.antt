use Rattle.eq_model.proofs.GateTrials.{inner_covers, inner_fails, inner_equal, inner_equivalent}
use Rattle.eq_model.proofs.examples.inner_cut_fails.Goals as goal

pub returns-clause-covered : goal.returns-clause-covered
returns-clause-covered c = inner_covers

pub returns-clause-fails : goal.returns-clause-fails
returns-clause-fails c = inner_fails

pub returns-clause-never : goal.returns-clause-never
returns-clause-never c = inner_equal

pub returns-clause-equal : goal.returns-clause-equal
returns-clause-equal c = inner_equivalent
