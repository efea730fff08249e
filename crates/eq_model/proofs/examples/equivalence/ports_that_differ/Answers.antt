use Rattle.eq_model.proofs.EquivalenceTrials.{ports_same, gold_port_more, gate_port_more}
use Rattle.eq_model.proofs.examples.equivalence.ports_that_differ.Goals as goal

pub returns-clause-same : goal.returns-clause-same
returns-clause-same c = ports_same

pub returns-clause-gold : goal.returns-clause-gold
returns-clause-gold c = gold_port_more

pub returns-clause-gate : goal.returns-clause-gate
returns-clause-gate c = gate_port_more
