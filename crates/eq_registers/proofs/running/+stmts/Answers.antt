use Rattle.std.proofs.Common.{rules, ◌≤◌, ◌+◌, length, map, drop, arith, sym, ap, subst, ◌∙◌}
use Rattle.eq_vparse.specs.declared.tree.Stmt.TheViews.{the_lemmas}
use Rattle.eq_net.specs.Tree.{trees_of}
use Rattle.eq_verilog.specs.Trees.{idle, in_sequence, stmt_tree}
use Rattle.eq_analysis.specs.Finding.{scope_of}
use Rattle.eq_registers.specs.Running.{HasRun}
use Rattle.eq_registers.proofs.Branching.{both_run, copy_size, copy_there, first_keys, first_ready, on_ok, second_keys, second_ready}
use Rattle.eq_registers.proofs.Grown.{keeps_twice}
use Rattle.eq_registers.proofs.Ran.{all_run, no_rest, one_run, rest_next, run_idle}
use Rattle.eq_registers.proofs.Stood.{all_there_later}
use Rattle.eq_registers.proofs.running.+stmts.Goals as goal

pub run_all-loop-stmt-preserved : goal.run_all-loop-stmt-preserved
run_all-loop-stmt-preserved t c =
    let all = c.args.all.now in
    let i = c.loop-stmt.stmt-index in
    let x = c.stmt-item.result in
    one_run c.args.nets.now c.args.names.now c.args.from c.args.keys.now.bits (in_sequence (map stmt_tree all))
    (in_sequence (map stmt_tree (drop i all))) (stmt_tree x) (in_sequence (map stmt_tree (drop (i + 1) all)))
    (trees_of c.args.words.now) (trees_of c.loop-stmt.words) (trees_of c.run_stmt.new.words) c.args.table.now
    c.loop-stmt.table c.run_stmt.new.table (rest_next all i x c.loop-stmt-test.true c.stmt-item.is)
    c.loop-stmt.invariant c.in_ok-run_stmt.ensures

pub run_all-returns : goal.run_all-returns
run_all-returns t c =
    let all = c.args.all.now in
    let i = c.loop-stmt.stmt-index in
    let last = c.loop-stmt-test.false in
    let end : length all ≤ i = omega arith in
    all_run c.args.nets.now c.args.names.now c.args.from c.args.keys.now.bits (in_sequence (map stmt_tree all))
    (in_sequence (map stmt_tree (drop i all))) (trees_of c.args.words.now) (trees_of c.loop-stmt.words)
    c.args.table.now c.loop-stmt.table (no_rest all i end) c.loop-stmt.invariant

pub run_stmt-returns-in-Empty : goal.run_stmt-returns-in-Empty
run_stmt-returns-in-Empty t c =
    let nets = c.args.nets.now in
    let s = scope_of nets c.args.names.now c.args.from in
    let keys = c.args.keys.now.bits in
    let words = trees_of c.args.words.now in
    let table = c.args.table.now in
    subst (λ x. HasRun nets s x keys words words table table)
    (sym (ap stmt_tree c.in-Empty.is ∙ c.statement_trees.ensures.empty))
    (run_idle nets s keys words table c.requires.words c.requires.there)

pub run_stmt-run_stmt-requires : goal.run_stmt-run_stmt-requires
run_stmt-run_stmt-requires t c =
    let nets = c.args.nets.now in
    let names = c.args.names.now in
    let from = c.args.from in
    let s = scope_of nets names from in
    let keys = c.args.keys.now.bits in
    let is = c.without_else.ensures in
    let copied = c.in_ok-firsts-in-If-default-default-None.ensures ∙ c.as_slice-in-If-default-default-None.ensures in
    let condition = c.in_ok-number-in-If-default-default-None.ensures in (
      search (rules, the_lemmas),
      (
        c.requires.room,
        (
          first_ready nets names from _ _ _ _ is c.requires.ready,
          (
            c.requires.starts,
            (
              c.requires.few,
              (
                c.requires.keys,
                (
                  first_keys keys s _ _ _ _ is c.requires.all,
                  (
                    copy_size keys c.args.table.now _ copied c.requires.size,
                    (
                      copy_there (trees_of c.args.words.now) (trees_of c.add_condition.new.words) c.args.table.now _ copied
                          condition.extends c.requires.there,
                      condition.words,
                    ),
                  ),
                ),
              ),
            ),
          ),
        ),
      ),
    )

pub run_stmt-run_stmt-requires-in-If-default-default-Some :
    goal.run_stmt-run_stmt-requires-in-If-default-default-Some
run_stmt-run_stmt-requires-in-If-default-default-Some t c =
    let nets = c.args.nets.now in
    let names = c.args.names.now in
    let from = c.args.from in
    let s = scope_of nets names from in
    let keys = c.args.keys.now.bits in
    let is = c.with_else.ensures in
    let copied = c.in_ok-firsts-in-If-default-default-Some.ensures ∙ c.as_slice-in-If-default-default-Some.ensures in
    let condition = c.in_ok-number-in-If-default-default-Some.ensures in (
      search (rules, the_lemmas),
      (
        c.requires.room,
        (
          first_ready nets names from _ _ _ _ is c.requires.ready,
          (
            c.requires.starts,
            (
              c.requires.few,
              (
                c.requires.keys,
                (
                  first_keys keys s _ _ _ _ is c.requires.all,
                  (
                    copy_size keys c.args.table.now _ copied c.requires.size,
                    (
                      copy_there (trees_of c.args.words.now)
                          (trees_of c.add_condition-in-If-default-default-Some.new.words) c.args.table.now _ copied
                          condition.extends c.requires.there,
                      condition.words,
                    ),
                  ),
                ),
              ),
            ),
          ),
        ),
      ),
    )

pub run_stmt-run_stmt-requires-in-If-default-default-Some-2 :
    goal.run_stmt-run_stmt-requires-in-If-default-default-Some-2
run_stmt-run_stmt-requires-in-If-default-default-Some-2 t c =
    let nets = c.args.nets.now in
    let names = c.args.names.now in
    let from = c.args.from in
    let s = scope_of nets names from in
    let keys = c.args.keys.now.bits in
    let is = c.with_else.ensures in
    let condition = c.in_ok-number-in-If-default-default-Some.ensures in
    let one = c.in_ok-run_stmt-in-If-default-default-Some.ensures in
    let old = trees_of c.args.words.now in
    let start = trees_of c.add_condition-in-If-default-default-Some.new.words in
    let mid = trees_of c.run_stmt-in-If-default-default-Some.new.words in (
      search (rules, the_lemmas),
      (
        c.requires.room,
        (
          second_ready nets names from _ _ _ _ is c.requires.ready,
          (
            c.requires.starts,
            (
              c.requires.few,
              (
                c.requires.keys,
                (
                  second_keys keys s _ _ _ _ is c.requires.all,
                  (
                    c.requires.size,
                    (
                      all_there_later nets old mid c.args.table.now
                          (keeps_twice old start mid condition.extends one.extends) c.requires.there,
                      one.words,
                    ),
                  ),
                ),
              ),
            ),
          ),
        ),
      ),
    )

pub run_stmt-returns-in_ok-run_stmt-in-If-default-default-None :
    goal.run_stmt-returns-in_ok-run_stmt-in-If-default-default-None
run_stmt-returns-in_ok-run_stmt-in-If-default-default-None t c =
    let nets = c.args.nets.now in
    let s = scope_of nets c.args.names.now c.args.from in
    let keys = c.args.keys.now.bits in
    let x = stmt_tree c.get-inner.result.now in
    let is = c.without_else.ensures in
    let condition = c.in_ok-number-in-If-default-default-None.ensures in
    let one = c.in_ok-run_stmt-in-If-default-default-None.ensures in
    let old = trees_of c.args.words.now in
    let start = trees_of c.add_condition.new.words in
    let mid = trees_of c.run_stmt.new.words in
    let table = c.args.table.now in
    on_ok c.choose.result (λ made.
    both_run nets s (stmt_tree c.args.stmt.now) _ x idle keys
    c.in_ok-number-in-If-default-default-None.number c.own-width.result old start mid mid (trees_of c.choose.new.words)
    table c.in_ok-firsts-in-If-default-default-None.firsts c.run_stmt.new.table
    c.as_slice-in-If-default-default-None-2.result.now table c.choose.new.table is
    (c.in_ok-firsts-in-If-default-default-None.ensures ∙ c.as_slice-in-If-default-default-None.ensures)
    c.as_slice-in-If-default-default-None-2.ensures condition one
    (run_idle nets s keys mid table one.words (all_there_later nets old mid table
    (keeps_twice old start mid condition.extends one.extends) c.requires.there))
    made c.own-width.ensures c.requires.size c.requires.there) c.choose.ensures

pub run_stmt-returns-in_ok-run_stmt-in-If-default-default-Some-2 :
    goal.run_stmt-returns-in_ok-run_stmt-in-If-default-default-Some-2
run_stmt-returns-in_ok-run_stmt-in-If-default-default-Some-2 t c =
    let nets = c.args.nets.now in
    let s = scope_of nets c.args.names.now c.args.from in
    let keys = c.args.keys.now.bits in
    let x = stmt_tree c.get-first.result.now in
    let y = stmt_tree c.get-second.result.now in
    let is = c.with_else.ensures in
    on_ok c.choose-in-If-default-default-Some.result (λ made.
    both_run nets s (stmt_tree c.args.stmt.now) _ x y keys
    c.in_ok-number-in-If-default-default-Some.number c.own-width-in-If-default-default-Some.result
    (trees_of c.args.words.now) (trees_of c.add_condition-in-If-default-default-Some.new.words)
    (trees_of c.run_stmt-in-If-default-default-Some.new.words)
    (trees_of c.run_stmt-in-If-default-default-Some-2.new.words)
    (trees_of c.choose-in-If-default-default-Some.new.words) c.args.table.now
    c.in_ok-firsts-in-If-default-default-Some.firsts c.run_stmt-in-If-default-default-Some.new.table
    c.as_slice-in-If-default-default-Some-2.result.now c.run_stmt-in-If-default-default-Some-2.new.table
    c.choose-in-If-default-default-Some.new.table is
    (c.in_ok-firsts-in-If-default-default-Some.ensures ∙ c.as_slice-in-If-default-default-Some.ensures)
    c.as_slice-in-If-default-default-Some-2.ensures c.in_ok-number-in-If-default-default-Some.ensures
    c.in_ok-run_stmt-in-If-default-default-Some.ensures c.in_ok-run_stmt-in-If-default-default-Some-2.ensures
    made c.own-width-in-If-default-default-Some.ensures c.requires.size c.requires.there)
    c.choose-in-If-default-default-Some.ensures
