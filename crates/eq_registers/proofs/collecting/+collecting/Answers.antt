use Rattle.std.proofs.Common.{◌+◌, drop, map, refl, sym, ap, subst, ◌∙◌}
use Rattle.eq_verilog.specs.Expressions.{wire}
use Rattle.eq_verilog.specs.Registers.{sets}
use Rattle.eq_verilog.specs.Sizes.{own}
use Rattle.eq_verilog.specs.Trees.{expr_tree, in_sequence, set, stmt_tree, target_tree}
use Rattle.eq_analysis.specs.Finding.{scope_of}
use Rattle.eq_registers.specs.inner.Adding.{IsAdded, stands}
use Rattle.eq_registers.proofs.Added.{added_same, one_among}
use Rattle.eq_registers.proofs.Ran.{rest_next}
use Rattle.eq_registers.proofs.collecting.+collecting.Goals as goal

pub add_all-loop-stmt-preserved : goal.add_all-loop-stmt-preserved
add_all-loop-stmt-preserved t c =
    let all = c.args.all.now in
    let i = c.loop-stmt.stmt-index in
    let x = c.stmt-item.result in
    one_among c.args.nets.now c.args.names.now c.args.from (in_sequence (map stmt_tree all))
    (in_sequence (map stmt_tree (drop i all))) (stmt_tree x) (in_sequence (map stmt_tree (drop (i + 1) all)))
    c.args.keys.now c.loop-stmt.keys c.add_stmt.new.keys (rest_next all i x c.loop-stmt-test.true c.stmt-item.is)
    c.loop-stmt.invariant c.in_ok-add_stmt.ensures

pub add_stmt-returns-in_ok-add_set-in-Set : goal.add_stmt-returns-in_ok-add_set-in-Set
add_stmt-returns-in_ok-add_set-in-Set t c =
    let nets = c.args.nets.now in
    let s = scope_of nets c.args.names.now c.args.from in
    let u = target_tree c.in-Set.target in
    let e = expr_tree c.in-Set.field-1 in
    subst (λ x. IsAdded nets c.args.keys.now c.add_set.new.keys (sets s x))
    (sym (ap stmt_tree c.in-Set.is ∙ c.statement_trees.ensures.set c.in-Set.target c.in-Set.field-1))
    (added_same nets c.args.keys.now c.add_set.new.keys (stands (wire s u) (own s u)) (sets s (set u e)) (λ b. refl)
    c.in_ok-add_set-in-Set.ensures)
