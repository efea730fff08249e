use Rattle.eq_model.proofs.GateTrials.{apart_disagree, apart_crossed, apart_covers, apart_never, apart_equivalent}
use Rattle.eq_model.proofs.examples.crossed_reads.Goals as goal

pub returns-clause-crossed : goal.returns-clause-crossed
returns-clause-crossed c = apart_crossed

pub returns-clause-covered : goal.returns-clause-covered
returns-clause-covered c = apart_covers

pub returns-clause-never : goal.returns-clause-never
returns-clause-never c = apart_never

pub returns-clause-equal : goal.returns-clause-equal
returns-clause-equal c = apart_equivalent

pub returns-clause-disagree : goal.returns-clause-disagree
returns-clause-disagree c = apart_disagree
