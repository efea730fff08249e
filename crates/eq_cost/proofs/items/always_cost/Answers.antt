use Rattle.eq_verilog.specs.Trees.{stmt_tree}
use Rattle.eq_verilog.specs.Nets.{module_scope}
use Rattle.eq_verilog.specs.Costs.{bits_set, different, stmt_cost}
use Rattle.eq_analysis.specs.Tabling.{tree_at}
use Rattle.eq_cost.proofs.items.always_cost.Goals as goal

pub returns : goal.returns
returns c = λ trees t.
    let s = module_scope (tree_at c.args.table.now) in
    let body = stmt_tree c.args.body.now in
    c.at.ensures (λ n. stmt_cost s n body) (different (bits_set s body)) c.stmt_line-line.ensures
    c.in_ok-count.ensures
