use Rattle.eq_model.proofs.DesignTrials.{widths_refused, names_refused, inputs_refused, driven_refused, twice_refused, left_out_refused, inner_refused, output_clock_refused, wide_clock_refused, no_clock_refused}
use Rattle.eq_model.proofs.examples.designs.nets_of_no_design.Goals as goal

pub returns-clause-widths : goal.returns-clause-widths
returns-clause-widths c = widths_refused

pub returns-clause-names : goal.returns-clause-names
returns-clause-names c = names_refused

pub returns-clause-inputs : goal.returns-clause-inputs
returns-clause-inputs c = inputs_refused

pub returns-clause-driven_input : goal.returns-clause-driven_input
returns-clause-driven_input c = driven_refused

pub returns-clause-twice : goal.returns-clause-twice
returns-clause-twice c = twice_refused

pub returns-clause-left_out : goal.returns-clause-left_out
returns-clause-left_out c = left_out_refused

pub returns-clause-inner_listed : goal.returns-clause-inner_listed
returns-clause-inner_listed c = inner_refused

pub returns-clause-clock_is_output : goal.returns-clause-clock_is_output
returns-clause-clock_is_output c = output_clock_refused

pub returns-clause-clock_is_wide : goal.returns-clause-clock_is_wide
returns-clause-clock_is_wide c = wide_clock_refused

pub returns-clause-clock_is_nowhere : goal.returns-clause-clock_is_nowhere
returns-clause-clock_is_nowhere c = no_clock_refused
