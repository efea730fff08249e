use Rattle.std.proofs.Common.{◌+◌}
use Rattle.eq_net.specs.Operators.{apply_cost}
use Rattle.eq_verilog.specs.Expressions.{word_op}
use Rattle.eq_verilog.specs.Costs.{cost}
use Rattle.eq_cost.proofs.forms.side_by_side.Goals as goal

pub returns : goal.returns
returns c = λ s a b left right.
    c.added.ensures (λ w. apply_cost (word_op c.args.op) w w) (λ w. cost s a w + cost s b w)
    (λ w. c.operator_line.ensures w w (c.requires c.args.right.size w))
    (c.added-operands.ensures (cost s a) (cost s b) left.line right.line)
