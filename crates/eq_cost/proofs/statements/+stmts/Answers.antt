use Rattle.std.proofs.Common.{◌+◌, ◌*◌, ◌≤◌, length, arith, refl, sym, ap, subst, ◌∙◌}
use Rattle.eq_verilog.specs.Trees.{StmtTree, idle, stmt_tree}
use Rattle.eq_verilog.specs.Nets.{module_scope}
use Rattle.eq_verilog.specs.Costs.{stmt_cost}
use Rattle.eq_analysis.specs.Tabling.{tree_at}
use Rattle.eq_cost.specs.Counts.{told}
use Rattle.eq_cost.specs.inner.Lines.{IsLine}
use Rattle.eq_cost.proofs.PartLemmas.{cost_of_block}
use Rattle.eq_cost.proofs.Running.{running_all, running_next}
use Rattle.eq_cost.proofs.statements.+stmts.Goals as goal

pub block_line-loop-stmt-preserved : goal.block_line-loop-stmt-preserved
block_line-loop-stmt-preserved t c = λ n.
    let s = module_scope (tree_at c.args.table.now) in
    let x = c.stmt-item.result in
    let old = c.loop-stmt.line in
    let new = c.added-line.result in
    running_next (λ y. stmt_cost s n (stmt_tree y)) c.args.all.now c.loop-stmt.stmt-index x (old.slope * n + old.base)
    (new.slope * n + new.base) c.loop-stmt-test.true c.stmt-item.is (c.loop-stmt.invariant n)
    (sym (c.added-line.ensures (λ w. old.slope * w + old.base) (λ w. stmt_cost s w (stmt_tree x)) (λ w. refl)
    c.stmt_line.ensures n))

pub block_line-returns : goal.block_line-returns
block_line-returns t c = λ n.
    let s = module_scope (tree_at c.args.table.now) in
    let last = c.loop-stmt-test.false in
    let end : length c.args.all.now ≤ c.loop-stmt.stmt-index = omega arith in
    sym (running_all (λ y. stmt_cost s n (stmt_tree y)) c.args.all.now c.loop-stmt.stmt-index
    (c.loop-stmt.line.slope * n + c.loop-stmt.line.base) end (c.loop-stmt.invariant n)
    ∙ ap (λ k. told k) (cost_of_block s n stmt_tree c.args.all.now))

pub stmt_line-returns-in-Empty : goal.stmt_line-returns-in-Empty
stmt_line-returns-in-Empty t c =
    let s = module_scope (tree_at c.args.table.now) in
    subst (λ (x : StmtTree). IsLine (λ n. stmt_cost s n x) c.flat.result)
    (sym (ap stmt_tree c.in-Empty.is ∙ c.statement_trees.ensures.empty))
    (c.flat.ensures (λ n. stmt_cost s n idle) (λ w. refl))

pub stmt_line-returns-in-If-default-default-None : goal.stmt_line-returns-in-If-default-default-None
stmt_line-returns-in-If-default-default-None t c =
    let s = module_scope (tree_at c.args.table.now) in
    subst (λ (x : StmtTree). IsLine (λ n. stmt_cost s n x) c.branch_line.result) (sym c.without_else.ensures)
    (c.branch_line.ensures s _ (stmt_tree c.get-inner.result.now) idle c.costed-test.ensures c.stmt_line-one.ensures
    (c.flat-in-If-default-default-None.ensures (λ n. stmt_cost s n idle) (λ w. refl)))

pub stmt_line-returns-in-If-default-default-Some : goal.stmt_line-returns-in-If-default-default-Some
stmt_line-returns-in-If-default-default-Some t c =
    let s = module_scope (tree_at c.args.table.now) in
    subst (λ (x : StmtTree). IsLine (λ n. stmt_cost s n x) c.branch_line-in-If-default-default-Some.result)
    (sym c.with_else.ensures)
    (c.branch_line-in-If-default-default-Some.ensures s _ (stmt_tree c.get-first.result.now)
    (stmt_tree c.get-second.result.now) c.costed-test-in-If-default-default-Some.ensures
    c.stmt_line-one-in-If-default-default-Some.ensures c.stmt_line-other.ensures)
