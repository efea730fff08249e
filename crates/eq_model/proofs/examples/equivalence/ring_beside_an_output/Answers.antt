use Rattle.eq_model.proofs.EquivalenceTrials.{ring_looped, ring_same, ring_gold, ring_gate}
use Rattle.eq_model.proofs.examples.equivalence.ring_beside_an_output.Goals as goal

pub returns-clause-looped : goal.returns-clause-looped
returns-clause-looped c = ring_looped

pub returns-clause-same : goal.returns-clause-same
returns-clause-same c = ring_same

pub returns-clause-gold : goal.returns-clause-gold
returns-clause-gold c = ring_gold

pub returns-clause-gate : goal.returns-clause-gate
returns-clause-gate c = ring_gate
