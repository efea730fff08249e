use Rattle.std.proofs.Common.{◌+◌, ◌*◌, refl}
use Rattle.eq_verilog.specs.Sizes.{own}
use Rattle.eq_verilog.specs.Costs.{cost}
use Rattle.eq_cost.proofs.FormLemmas.{base_in, tested}
use Rattle.eq_cost.proofs.forms.test_line.Goals as goal

pub returns : goal.returns
returns c = λ s e test w.
    tested w c.sum-base.result (4 * own s e + cost s e (own s e)) 1 refl
    (base_in (own s e) c.args.test.size (cost s e (own s e)) c.at.result c.product.result c.sum-base.result test.size
    (c.at.ensures (cost s e) (own s e) test.line test.size) c.product.ensures c.sum-base.ensures)
