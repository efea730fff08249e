use Rattle.eq_verilog.specs.Sizes.{unary_form}
use Rattle.eq_cost.proofs.OperatorLemmas.{unary_lined}
use Rattle.eq_cost.proofs.operators.unary_line.Goals as goal

pub returns : goal.returns
returns c = unary_lined (unary_form c.args.op) _ c.unary_slope.ensures c.unary_base.ensures
