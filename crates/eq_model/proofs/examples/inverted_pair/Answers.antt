use Rattle.eq_model.proofs.RegisterTrials.{complements_cover, registers_proved, complements_equivalent, plain_registers_fail}
use Rattle.eq_model.proofs.examples.inverted_pair.Goals as goal

pub returns-clause-covered : goal.returns-clause-covered
returns-clause-covered c = complements_cover

pub returns-clause-proves : goal.returns-clause-proves
returns-clause-proves c = registers_proved

pub returns-clause-equal : goal.returns-clause-equal
returns-clause-equal c = complements_equivalent

pub returns-clause-plain : goal.returns-clause-plain
returns-clause-plain c = plain_registers_fail
