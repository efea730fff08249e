use Rattle.eq_verilog.proofs.Places.{found_there, found_nowhere}
use Rattle.eq_verilog.proofs.laws.modules_by_number.Goals as goal

pub returns-clause-there : goal.returns-clause-there
returns-clause-there c = found_there

pub returns-clause-nowhere : goal.returns-clause-nowhere
returns-clause-nowhere c = found_nowhere
