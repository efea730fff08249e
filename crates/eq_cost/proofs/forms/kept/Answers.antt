use Rattle.eq_verilog.specs.Sizes.{unary_form}
use Rattle.eq_verilog.specs.Costs.{cost, unary_cost}
use Rattle.eq_cost.proofs.FormLemmas.{is_kept}
use Rattle.eq_cost.proofs.forms.kept.Goals as goal

pub returns : goal.returns
returns c = λ s a h.
    is_kept s c.args.op a _ c.requires h.size
    (c.added.ensures (unary_cost (unary_form c.args.op)) (cost s a) c.unary_line.ensures h.line)
