use Rattle.eq_cost.proofs.OperatorLemmas.{operator_lined}
use Rattle.eq_cost.proofs.operators.operator_line.Goals as goal

pub returns : goal.returns
returns c = operator_lined c.args.op c.args.right _ c.operator_slope.ensures c.operator_base.ensures
