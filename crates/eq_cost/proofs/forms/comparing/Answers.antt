use Rattle.std.proofs.Common.{◌+◌, max, refl, ap, ◌∙◌}
use Rattle.eq_net.specs.Operators.{apply_cost}
use Rattle.eq_verilog.specs.Sizes.{own, sizing}
use Rattle.eq_verilog.specs.Expressions.{word_op}
use Rattle.eq_verilog.specs.Costs.{cost}
use Rattle.eq_cost.specs.Counts.{told}
use Rattle.eq_cost.proofs.FormLemmas.{is_comparing, near_comparing}
use Rattle.eq_cost.proofs.Numbers.{maxima}
use Rattle.eq_cost.proofs.forms.comparing.Goals as goal

pub side_by_side-whole-requires : goal.side_by_side-whole-requires
side_by_side-whole-requires c = near_comparing (sizing c.args.op) c.requires

pub returns : goal.returns
returns c = λ s a b left right.
    is_comparing s c.args.op a b _ c.requires refl
    (c.flat.ensures _
    (λ w. c.at.ensures (λ n. apply_cost (word_op c.args.op) n n + (cost s a n + cost s b n)) (max (own s a) (own s b))
    (c.side_by_side-whole.ensures s a b left right)
    (ap (λ n. told n) c.max.ensures
    ∙ maxima c.args.left.size (own s a) c.args.right.size (own s b) left.size right.size)))
