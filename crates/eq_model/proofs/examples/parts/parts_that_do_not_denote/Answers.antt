use Rattle.eq_model.proofs.DenotesTrials.{idle_refused, nameless_refused, own_output_refused, twice_refused, left_out_refused, input_refused, initial_refused}
use Rattle.eq_model.proofs.examples.parts.parts_that_do_not_denote.Goals as goal

pub returns-clause-idle : goal.returns-clause-idle
returns-clause-idle c = idle_refused

pub returns-clause-twice : goal.returns-clause-twice
returns-clause-twice c = twice_refused

pub returns-clause-left_out : goal.returns-clause-left_out
returns-clause-left_out c = left_out_refused

pub returns-clause-input : goal.returns-clause-input
returns-clause-input c = input_refused

pub returns-clause-initial : goal.returns-clause-initial
returns-clause-initial c = initial_refused

pub returns-clause-nameless : goal.returns-clause-nameless
returns-clause-nameless c = nameless_refused

pub returns-clause-own_output : goal.returns-clause-own_output
returns-clause-own_output c = own_output_refused
