use Rattle.std.proofs.Common.{arith}
use Rattle.eq_cost.proofs.operators.judged_base.Goals as goal

pub returns : goal.returns
returns c =
    let e = c.product.ensures in
    let f = c.sum.ensures in
    omega arith
