use Rattle.std.proofs.Common.{◌+◌, ◌*◌, refl}
use Rattle.eq_cost.proofs.ItemLemmas.{five_times}
use Rattle.eq_cost.proofs.Numbers.{multiplied}
use Rattle.eq_cost.proofs.items.gate_nodes.Goals as goal

pub returns : goal.returns
returns c =
    multiplied c.args.outputs c.args.outputs c.sum.result (4 * c.args.inputs + 1) c.product-2.result c.product-2.ensures
    refl (five_times c.args.inputs c.product.result c.sum.result c.product.ensures c.sum.ensures)
