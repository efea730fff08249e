use Rattle.std.proofs.Common.{◌+◌, refl, ◌∙◌}
use Rattle.eq_verilog.specs.Sizes.{own, unary_form}
use Rattle.eq_verilog.specs.Costs.{cost, unary_cost}
use Rattle.eq_cost.proofs.FormLemmas.{is_reduced}
use Rattle.eq_cost.proofs.forms.reduced.Goals as goal

pub returns : goal.returns
returns c = λ s a h.
    is_reduced s c.args.op a _ c.requires refl
    (λ f same. c.flat.ensures f
    (λ w. c.at.ensures (λ n. unary_cost (unary_form c.args.op) n + cost s a n) (own s a)
    (c.added-whole.ensures (unary_cost (unary_form c.args.op)) (cost s a) c.unary_line.ensures h.line) h.size ∙ same w))
