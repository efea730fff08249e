use Rattle.eq_model.proofs.PlanTrials.{gold_unpaired, gate_unpaired}
use Rattle.eq_model.proofs.examples.plans.unpaired_inner_bits.Goals as goal

pub returns-clause-gold : goal.returns-clause-gold
returns-clause-gold c = gold_unpaired

pub returns-clause-gate : goal.returns-clause-gate
returns-clause-gate c = gate_unpaired
