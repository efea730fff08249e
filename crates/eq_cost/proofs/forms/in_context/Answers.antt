use Rattle.std.proofs.Common.{ap, ◌∙◌}
use Rattle.eq_verilog.specs.Sizes.{own, sizing}
use Rattle.eq_cost.specs.Counts.{told}
use Rattle.eq_cost.proofs.FormLemmas.{is_in_context, near_in_context}
use Rattle.eq_cost.proofs.Numbers.{maxima}
use Rattle.eq_cost.proofs.forms.in_context.Goals as goal

pub side_by_side-requires : goal.side_by_side-requires
side_by_side-requires c = near_in_context (sizing c.args.op) c.requires

pub returns : goal.returns
returns c = λ s a b left right.
    is_in_context s c.args.op a b _ c.requires
    (ap (λ n. told n) c.max.ensures
    ∙ maxima c.args.left.size (own s a) c.args.right.size (own s b) left.size right.size)
    (c.side_by_side.ensures s a b left right)
