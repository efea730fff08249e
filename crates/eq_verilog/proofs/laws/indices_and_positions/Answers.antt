use Rattle.eq_verilog.proofs.Indices.{there_and_back}
use Rattle.eq_verilog.proofs.laws.indices_and_positions.Goals as goal

pub returns : goal.returns
returns c = there_and_back
