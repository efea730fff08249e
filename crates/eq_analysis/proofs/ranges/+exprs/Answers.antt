use Rattle.std.proofs.Common.{◌≡◌, length, arith, ap, subst, sym, ◌∙◌}
use Rattle.eq_verilog.specs.Trees as tree
use Rattle.eq_verilog.specs.Trees.{module_tree, expr_tree}
use Rattle.eq_analysis.specs.inner.Ranging.{IsMeasured}
use Rattle.eq_analysis.proofs.RangeLemmas.{summed_all}
use Rattle.eq_analysis.proofs.ranges.+exprs.Goals as goal

pub measured_all-returns : goal.measured_all-returns
measured_all-returns t c =
    let last = c.loop-part-test.false in
    let within = c.loop-part.auto.part-index-end in
    let end : c.loop-part.part-index ≡ length c.args.parts.now = omega arith in
    summed_all (module_tree c.args.table.now.within.now) c.args.parts.now c.loop-part.part-index c.loop-part.size
    c.loop-part.inside c.measured.result end c.loop-part.invariant c.measured.ensures.size c.measured.ensures.fault

pub measured_expr-returns-in-Const : goal.measured_expr-returns-in-Const
measured_expr-returns-in-Const t c =
    let m = module_tree c.args.table.now.within.now in
    let is : expr_tree c.args.expr.now ≡ tree.const c.in-Const.constant =
    ap expr_tree c.in-Const.is ∙ c.expression_trees.ensures.constant c.in-Const.constant in
    subst (λ e. IsMeasured m e c.measured_const.result) (sym is) (c.measured_const.ensures m)

pub measured_expr-returns-in-Binary : goal.measured_expr-returns-in-Binary
measured_expr-returns-in-Binary t c =
    let m = module_tree c.args.table.now.within.now in
    let a = expr_tree c.in-Binary.a in
    let b = expr_tree c.in-Binary.b in
    let is : expr_tree c.args.expr.now ≡ tree.binary c.in-Binary.op a b =
    ap expr_tree c.in-Binary.is ∙ c.expression_trees.ensures.binary c.in-Binary.op c.in-Binary.a c.in-Binary.b in
    let left = subst (λ e. IsMeasured m (expr_tree e) c.measured_expr-left.result) c.get-in-Binary.ensures
    c.measured_expr-left.ensures in
    let right = subst (λ e. IsMeasured m (expr_tree e) c.measured_expr-right.result) c.get-in-Binary-2.ensures
    c.measured_expr-right.ensures in
    subst (λ e. IsMeasured m e c.measured_binary.result) (sym is) (c.measured_binary.ensures a b left right)

pub measured_expr-returns-in-Cond : goal.measured_expr-returns-in-Cond
measured_expr-returns-in-Cond t c =
    let m = module_tree c.args.table.now.within.now in
    let d = expr_tree c.in-Cond.c in
    let a = expr_tree c.in-Cond.a in
    let b = expr_tree c.in-Cond.b in
    let is : expr_tree c.args.expr.now ≡ tree.choice d a b =
    ap expr_tree c.in-Cond.is ∙ c.expression_trees.ensures.choice c.in-Cond.c c.in-Cond.a c.in-Cond.b in
    let test = subst (λ e. IsMeasured m (expr_tree e) c.measured_expr-test.result) c.get-in-Cond.ensures
    c.measured_expr-test.ensures in
    let left = subst (λ e. IsMeasured m (expr_tree e) c.measured_expr-left-in-Cond.result) c.get-in-Cond-2.ensures
    c.measured_expr-left-in-Cond.ensures in
    let right = subst (λ e. IsMeasured m (expr_tree e) c.measured_expr-right-in-Cond.result) c.get-in-Cond-3.ensures
    c.measured_expr-right-in-Cond.ensures in
    subst (λ e. IsMeasured m e c.measured_choice.result) (sym is) (c.measured_choice.ensures d a b test left right)
