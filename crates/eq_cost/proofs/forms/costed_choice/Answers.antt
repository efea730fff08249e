use Rattle.std.proofs.Common.{◌+◌, ◌*◌, ap, ◌∙◌}
use Rattle.eq_verilog.specs.Sizes.{own}
use Rattle.eq_verilog.specs.Costs.{cost}
use Rattle.eq_cost.specs.Counts.{told}
use Rattle.eq_cost.proofs.FormLemmas.{is_choice}
use Rattle.eq_cost.proofs.Numbers.{maxima}
use Rattle.eq_cost.proofs.forms.costed_choice.Goals as goal

pub returns : goal.returns
returns c = λ s e a b test left right.
    is_choice s e a b _
    (ap (λ n. told n) c.max.ensures
    ∙ maxima c.args.left.size (own s a) c.args.right.size (own s b) left.size right.size)
    (c.added.ensures (λ w. w + (4 * own s e + cost s e (own s e))) (λ w. cost s a w + cost s b w)
    (c.test_line.ensures s e test) (c.added-operands.ensures (cost s a) (cost s b) left.line right.line))
