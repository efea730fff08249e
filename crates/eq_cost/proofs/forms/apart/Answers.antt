use Rattle.std.proofs.Common.{◌+◌}
use Rattle.eq_net.specs.Operators.{apply_cost}
use Rattle.eq_verilog.specs.Sizes.{own, sizing}
use Rattle.eq_verilog.specs.Expressions.{word_op}
use Rattle.eq_verilog.specs.Costs.{cost}
use Rattle.eq_cost.proofs.OperatorLemmas.{near_sized}
use Rattle.eq_cost.proofs.forms.apart.Goals as goal

pub returns : goal.returns
returns c = λ s a b left right.
    c.added.ensures (λ w. apply_cost (word_op c.args.op) w (own s b)) (λ w. cost s a w + cost s b (own s b))
    (λ w. c.operator_line.ensures w (own s b) (near_sized (sizing c.args.op) c.args.right.size (own s b) right.size))
    (c.added-operands.ensures (cost s a) (λ w. cost s b (own s b)) left.line
    (c.flat.ensures (λ w. cost s b (own s b)) (λ w. c.at.ensures (cost s b) (own s b) right.line right.size)))
