use Rattle.eq_verilog.specs.Trees.{expr_tree, set, target_tree}
use Rattle.eq_verilog.specs.Sizes.{own}
use Rattle.eq_verilog.specs.Nets.{module_scope}
use Rattle.eq_verilog.specs.Costs.{stmt_cost}
use Rattle.eq_analysis.specs.Tabling.{tree_at}
use Rattle.eq_cost.proofs.statements.set_line.Goals as goal

pub returns : goal.returns
returns c =
    let s = module_scope (tree_at c.args.table.now) in
    let t = target_tree c.args.target.now in
    c.flat.ensures (λ n. stmt_cost s n (set t (expr_tree c.args.expr.now)))
    (λ n. c.side_cost.ensures (own s t) c.target_size.ensures)
