use Rattle.eq_verilog.proofs.Totals.{design_total}
use Rattle.eq_verilog.proofs.laws.cost_by_modules.Goals as goal

pub returns : goal.returns
returns c = design_total
