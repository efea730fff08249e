use Rattle.eq_model.proofs.AgreementTrials.{bits_told, kind_told, initial_told, equation_reads_told, equation_value_told, next_reads_told, next_value_told, name_told, range_told, dir_told, automatic_told, ports_told, clock_told, copies_told}
use Rattle.eq_model.proofs.examples.designs.one_point_apart.Goals as goal

pub returns-clause-bits : goal.returns-clause-bits
returns-clause-bits c = bits_told

pub returns-clause-kind : goal.returns-clause-kind
returns-clause-kind c = kind_told

pub returns-clause-initial : goal.returns-clause-initial
returns-clause-initial c = initial_told

pub returns-clause-reads : goal.returns-clause-reads
returns-clause-reads c = equation_reads_told

pub returns-clause-value : goal.returns-clause-value
returns-clause-value c = equation_value_told

pub returns-clause-next_reads : goal.returns-clause-next_reads
returns-clause-next_reads c = next_reads_told

pub returns-clause-next_value : goal.returns-clause-next_value
returns-clause-next_value c = next_value_told

pub returns-clause-name : goal.returns-clause-name
returns-clause-name c = name_told

pub returns-clause-range : goal.returns-clause-range
returns-clause-range c = range_told

pub returns-clause-dir : goal.returns-clause-dir
returns-clause-dir c = dir_told

pub returns-clause-automatic : goal.returns-clause-automatic
returns-clause-automatic c = automatic_told

pub returns-clause-ports : goal.returns-clause-ports
returns-clause-ports c = ports_told

pub returns-clause-clock : goal.returns-clause-clock
returns-clause-clock c = clock_told

pub returns-clause-copies : goal.returns-clause-copies
returns-clause-copies c = copies_told
