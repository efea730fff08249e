use Rattle.eq_verilog.proofs.Numbers.{found_has}
use Rattle.eq_verilog.proofs.laws.names_by_number.Goals as goal

pub returns : goal.returns
returns c = found_has
