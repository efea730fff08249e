use Rattle.eq_marks.proofs.SamePorts.{gold_ports, gate_ports}
use Rattle.eq_marks.proofs.laws.ports_that_fit.Goals as goal

pub returns-clause-gold : goal.returns-clause-gold
returns-clause-gold c = gold_ports

pub returns-clause-gate : goal.returns-clause-gate
returns-clause-gate c = gate_ports
