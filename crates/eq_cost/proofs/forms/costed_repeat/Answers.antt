use Rattle.std.proofs.Common.{ap}
use Rattle.eq_verilog.specs.Trees.{repeated}
use Rattle.eq_verilog.specs.Sizes.{own}
use Rattle.eq_verilog.specs.Costs.{cost}
use Rattle.eq_cost.specs.Counts.{told}
use Rattle.eq_cost.proofs.Numbers.{multiplied}
use Rattle.eq_cost.proofs.forms.costed_repeat.Goals as goal

pub returns : goal.returns
returns c = λ s a h. record {
  size =
      multiplied c.from.result c.args.count c.args.part.size (own s a) c.product.result c.product.ensures
      (ap (λ n. told n) c.from.ensures) h.size;
  line = c.flat.ensures (cost s (repeated c.args.count a)) (λ w. c.at.ensures (cost s a) (own s a) h.line h.size);
}
