use Rattle.std.proofs.Common.{max, ap, ◌∙◌}
use Rattle.eq_verilog.specs.Trees.{expr_tree}
use Rattle.eq_verilog.specs.Sizes.{own}
use Rattle.eq_verilog.specs.Nets.{module_scope}
use Rattle.eq_verilog.specs.Costs.{cost}
use Rattle.eq_analysis.specs.Tabling.{tree_at}
use Rattle.eq_cost.specs.Counts.{told}
use Rattle.eq_cost.proofs.Numbers.{maxima}
use Rattle.eq_cost.proofs.expressions.side_cost.Goals as goal

pub returns : goal.returns
returns c = λ n same.
    let s = module_scope (tree_at c.args.table.now) in
    let e = expr_tree c.args.expr.now in
    let is = c.costed-side.ensures in
    c.at.ensures (cost s e) (max n (own s e)) is.line
    (ap (λ k. told k) c.max.ensures ∙ maxima c.args.bits n c.costed-side.result.size (own s e) same is.size)
