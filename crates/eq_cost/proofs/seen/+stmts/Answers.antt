use Rattle.std.proofs.Common.{◌≡◌, ◌<◌, ◌-◌, ◌++◌, ℕ, suc, List, drop, length, map, arith, sym, subst}
use Rattle.eq_verilog.specs.Trees.{StmtTree, in_sequence, stmt_tree}
use Rattle.eq_verilog.specs.Nets.{module_scope}
use Rattle.eq_verilog.specs.Costs.{bits_set}
use Rattle.eq_analysis.specs.Tabling.{tree_at}
use Rattle.eq_cost.specs.inner.Seeing.{IsCounted}
use Rattle.eq_cost.proofs.SeenLemmas.{rest_at, set_in_front}
use Rattle.eq_cost.proofs.seen.+stmts.Goals as goal

pub see_stmts-loop-place-preserved : goal.see_stmts-loop-place-preserved
see_stmts-loop-place-preserved t c =
    let s = module_scope (tree_at c.args.table.now) in
    let m = c.loop-place.place in
    let k = m - 1 in
    let stmt = c.index-all-place.result in
    let some = c.loop-place-test.true in
    let most = c.loop-place.invariant.within in
    let inside : k < length c.args.all.now = omega (arith, some, most) in
    let next : m ≡ suc k = omega (arith, some) in
    record {
      within = omega (arith, most);
      counted = λ bits h.
          subst (λ (ss : List StmtTree). IsCounted c.see_stmt.new.seen (bits_set s (in_sequence ss) ++ bits))
          (sym (rest_at stmt_tree c.args.all.now k m stmt next inside c.index-all-place.is))
          (set_in_front s c.see_stmt.new.seen bits (stmt_tree stmt)
          (in_sequence (map stmt_tree (drop m c.args.all.now)))
          (c.in_ok-see_stmt.ensures (bits_set s (in_sequence (map stmt_tree (drop m c.args.all.now))) ++ bits)
          (c.loop-place.invariant.counted bits h)));
    }

pub see_stmt-returns-in_ok-see_stmt-in-If-default-default-Some-2 :
    goal.see_stmt-returns-in_ok-see_stmt-in-If-default-default-Some-2
see_stmt-returns-in_ok-see_stmt-in-If-default-default-Some-2 t c = λ bits h.
    let s = module_scope (tree_at c.args.table.now) in
    let new = c.see_stmt-in-If-default-default-Some-2.new.seen in
    let x = stmt_tree c.get-first.result.now in
    let y = stmt_tree c.get-second.result.now in
    let one = c.in_ok-see_stmt-in-If-default-default-Some-2.ensures (bits_set s y ++ bits)
    (c.in_ok-see_stmt-in-If-default-default-Some.ensures bits h) in
    subst (λ (ns : List ℕ). IsCounted new (ns ++ bits)) (sym (c.both_sides.ensures s)) (set_in_front s new bits x y one)
