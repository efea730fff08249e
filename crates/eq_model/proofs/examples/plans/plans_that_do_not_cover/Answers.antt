use Rattle.eq_model.proofs.PlanTrials.{empty_refused, input_refused, no_pair_refused, unpaired_refused, inverted_refused, crossed_refused, unmarked_refused, gold_twice_refused, gate_twice_refused, beyond_refused}
use Rattle.eq_model.proofs.examples.plans.plans_that_do_not_cover.Goals as goal

pub returns-clause-empty : goal.returns-clause-empty
returns-clause-empty c = empty_refused

pub returns-clause-input : goal.returns-clause-input
returns-clause-input c = input_refused

pub returns-clause-no_pair : goal.returns-clause-no_pair
returns-clause-no_pair c = no_pair_refused

pub returns-clause-unpaired : goal.returns-clause-unpaired
returns-clause-unpaired c = unpaired_refused

pub returns-clause-inverted : goal.returns-clause-inverted
returns-clause-inverted c = inverted_refused

pub returns-clause-crossed : goal.returns-clause-crossed
returns-clause-crossed c = crossed_refused

pub returns-clause-unmarked : goal.returns-clause-unmarked
returns-clause-unmarked c = unmarked_refused

pub returns-clause-gold_twice : goal.returns-clause-gold_twice
returns-clause-gold_twice c = gold_twice_refused

pub returns-clause-gate_twice : goal.returns-clause-gate_twice
returns-clause-gate_twice c = gate_twice_refused

pub returns-clause-beyond : goal.returns-clause-beyond
returns-clause-beyond c = beyond_refused
