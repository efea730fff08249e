use Rattle.std.proofs.Common.{◌+◌, refl}
use Rattle.eq_net.specs.Operators.{apply_cost}
use Rattle.eq_verilog.specs.Sizes.{own}
use Rattle.eq_verilog.specs.Expressions.{word_op}
use Rattle.eq_verilog.specs.Costs.{cost}
use Rattle.eq_cost.proofs.FormLemmas.{is_judging}
use Rattle.eq_cost.proofs.forms.judging.Goals as goal

pub returns : goal.returns
returns c = λ s a b left right.
    is_judging s c.args.op a b _ c.requires refl
    (c.flat.ensures _
    (λ w. c.at.ensures (λ n. apply_cost (word_op c.args.op) n (own s b) + (cost s a n + cost s b (own s b))) (own s a)
    (c.apart-whole.ensures s a b left right) left.size))
