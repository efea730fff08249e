use Rattle.std.proofs.Common.{◌≡◌, ◌≤◌, length, arith, refl, ap, subst, sym, ◌∙◌}
use Rattle.eq_verilog.specs.Trees as tree
use Rattle.eq_verilog.specs.Trees.{expr_tree}
use Rattle.eq_verilog.specs.Sizes.{own}
use Rattle.eq_verilog.specs.Nets.{module_scope}
use Rattle.eq_verilog.specs.Costs.{cost}
use Rattle.eq_analysis.specs.Tabling.{tree_at}
use Rattle.eq_cost.specs.inner.Lines.{IsCosted}
use Rattle.eq_cost.proofs.Numbers.{summed}
use Rattle.eq_cost.proofs.PartLemmas.{costed_whole}
use Rattle.eq_cost.proofs.Running.{running_all, running_next}
use Rattle.eq_cost.proofs.expressions.+exprs.Goals as goal

pub costed_all-loop-part-preserved : goal.costed_all-loop-part-preserved
costed_all-loop-part-preserved t c =
    let s = module_scope (tree_at c.args.table.now) in
    let x = c.part-item.result in
    let is = c.costed-next.ensures in
    let total = c.loop-part.total in
    let size = c.loop-part.size in
    record {
      sizes =
          running_next (λ y. own s (expr_tree y)) c.args.parts.now c.loop-part.part-index x size c.sum-size.result
          c.loop-part-test.true c.part-item.is c.loop-part.invariant.sizes
          (summed size size c.costed-next.result.size (own s (expr_tree x)) c.sum-size.result c.sum-size.ensures refl
          is.size);
      costs =
          running_next (λ y. cost s (expr_tree y) (own s (expr_tree y))) c.args.parts.now c.loop-part.part-index x total
          c.sum-total.result c.loop-part-test.true c.part-item.is c.loop-part.invariant.costs
          (summed total total c.at.result (cost s (expr_tree x) (own s (expr_tree x))) c.sum-total.result
          c.sum-total.ensures refl (c.at.ensures (cost s (expr_tree x)) (own s (expr_tree x)) is.line is.size));
    }

pub costed_all-returns : goal.costed_all-returns
costed_all-returns t c =
    let s = module_scope (tree_at c.args.table.now) in
    let last = c.loop-part-test.false in
    let end : length c.args.parts.now ≤ c.loop-part.part-index = omega arith in
    costed_whole s expr_tree c.args.parts.now c.loop-part.size c.loop-part.total _
    (running_all (λ y. own s (expr_tree y)) c.args.parts.now c.loop-part.part-index c.loop-part.size end
    c.loop-part.invariant.sizes)
    (running_all (λ y. cost s (expr_tree y) (own s (expr_tree y))) c.args.parts.now c.loop-part.part-index
    c.loop-part.total end c.loop-part.invariant.costs) refl c.flat.ensures

pub costed-returns-in-Const : goal.costed-returns-in-Const
costed-returns-in-Const t c =
    let s = module_scope (tree_at c.args.table.now) in
    let is : expr_tree c.args.expr.now ≡ tree.const c.in-Const.constant =
    ap expr_tree c.in-Const.is ∙ c.expression_trees.ensures.constant c.in-Const.constant in
    subst (λ e. IsCosted s e c.costed_const.result) (sym is) (c.costed_const.ensures s)

pub costed-returns-in-Binary : goal.costed-returns-in-Binary
costed-returns-in-Binary t c =
    let s = module_scope (tree_at c.args.table.now) in
    let a = expr_tree c.in-Binary.a in
    let b = expr_tree c.in-Binary.b in
    let is : expr_tree c.args.expr.now ≡ tree.binary c.in-Binary.op a b =
    ap expr_tree c.in-Binary.is ∙ c.expression_trees.ensures.binary c.in-Binary.op c.in-Binary.a c.in-Binary.b in
    let left = subst (λ e. IsCosted s (expr_tree e) c.costed-left.result) c.get-in-Binary.ensures
    c.costed-left.ensures in
    let right = subst (λ e. IsCosted s (expr_tree e) c.costed-right.result) c.get-in-Binary-2.ensures
    c.costed-right.ensures in
    subst (λ e. IsCosted s e c.costed_binary.result) (sym is) (c.costed_binary.ensures s a b left right)

pub costed-returns-in-Cond : goal.costed-returns-in-Cond
costed-returns-in-Cond t c =
    let s = module_scope (tree_at c.args.table.now) in
    let d = expr_tree c.in-Cond.c in
    let a = expr_tree c.in-Cond.a in
    let b = expr_tree c.in-Cond.b in
    let is : expr_tree c.args.expr.now ≡ tree.choice d a b =
    ap expr_tree c.in-Cond.is ∙ c.expression_trees.ensures.choice c.in-Cond.c c.in-Cond.a c.in-Cond.b in
    let test = subst (λ e. IsCosted s (expr_tree e) c.costed-test.result) c.get-in-Cond.ensures
    c.costed-test.ensures in
    let left = subst (λ e. IsCosted s (expr_tree e) c.costed-left-in-Cond.result) c.get-in-Cond-2.ensures
    c.costed-left-in-Cond.ensures in
    let right = subst (λ e. IsCosted s (expr_tree e) c.costed-right-in-Cond.result) c.get-in-Cond-3.ensures
    c.costed-right-in-Cond.ensures in
    subst (λ e. IsCosted s e c.costed_choice.result) (sym is) (c.costed_choice.ensures s d a b test left right)

pub costed-returns-in-Bit : goal.costed-returns-in-Bit
costed-returns-in-Bit t c =
    let s = module_scope (tree_at c.args.table.now) in
    subst (λ e. IsCosted s e c.costed_bit.result)
    (sym (ap expr_tree c.in-Bit.is ∙ c.expression_trees.ensures.bit _ _)) (c.costed_bit.ensures s _ _)

pub costed-returns-in-Part : goal.costed-returns-in-Part
costed-returns-in-Part t c =
    let s = module_scope (tree_at c.args.table.now) in
    subst (λ e. IsCosted s e c.costed_part.result)
    (sym (ap expr_tree c.in-Part.is ∙ c.expression_trees.ensures.part _ _ _)) (c.costed_part.ensures s _)
