use Rattle.eq_model.proofs.GateTrials.{ring_loops, ring_is_open}
use Rattle.eq_model.proofs.examples.ring_of_wires.Goals as goal

pub returns-clause-looped : goal.returns-clause-looped
returns-clause-looped c = ring_loops

pub returns-clause-unsettled : goal.returns-clause-unsettled
returns-clause-unsettled c = ring_is_open
