use Rattle.eq_model.proofs.Refuted.{other_outputs, port_lacks}
use Rattle.eq_model.proofs.laws.equivalence.equivalence_refuted.Goals as goal

pub returns-clause-outputs : goal.returns-clause-outputs
returns-clause-outputs c = other_outputs

pub returns-clause-gold_port : goal.returns-clause-gold_port
returns-clause-gold_port c = λ gold gate a la port none e. port_lacks gold gate a la port none e.gold_ports

pub returns-clause-gate_port : goal.returns-clause-gate_port
returns-clause-gate_port c = λ gold gate b lb port none e. port_lacks gate gold b lb port none e.gate_ports

pub returns-clause-gold_design : goal.returns-clause-gold_design
returns-clause-gold_design c = λ gold gate no e. no e.gold_design

pub returns-clause-gate_design : goal.returns-clause-gate_design
returns-clause-gate_design c = λ gold gate no e. no e.gate_design

pub returns-clause-gold_run : goal.returns-clause-gold_run
returns-clause-gold_run c = λ gold gate given n no e. no (e.gold_run given n)

pub returns-clause-gate_run : goal.returns-clause-gate_run
returns-clause-gate_run c = λ gold gate given n no e. no (e.gate_run given n)
