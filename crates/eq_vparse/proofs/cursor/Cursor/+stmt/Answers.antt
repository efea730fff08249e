use Rattle.std.proofs.Common.{rules, ◌≡◌, ◌≢◌, List, sym, subst, ◌∙◌}
use Rattle.eq_vparse.specs.Limits.{limits}
use Rattle.eq_vparse.specs.declared.stop.Stop.{Stop}
use Rattle.eq_vparse.specs.declared.stop.Stop.TheVariants as stop
use Rattle.eq_vparse.specs.declared.tree.Stmt.{Stmt}
use Rattle.eq_vparse.specs.Reading.{Reading, Reads, stopped}
use Rattle.eq_vparse.specs.StatementReading.{stmt_at, body_at}
use Rattle.eq_vparse.proofs.StatementTurns.{stmt_shortens, rest_of, rest_end, rest_more, rest_stops, level_none, level_less}
use Rattle.eq_vparse.proofs.cursor.Cursor.+stmt.Goals as goal

pub body-returns-in_err-stmt : goal.body-returns-in_err-stmt
body-returns-in_err-stmt t c =
    let e : Stop = c.in_err-stmt.field-0.0 in
    let at : e ≢ stop.Memory → body_at (stmt_at limits c.args.levels) c.args.self.now ≡ stopped e = λ free. rest_stops limits c.args.levels c.loop-alloc.body c.loop-alloc.self _ e (sym c.is_key.ensures ∙ c.loop-alloc-test.true) (c.in_err-stmt.ensures free) c.loop-alloc.invariant in
    search rules

pub body-loop-alloc-smaller : goal.body-loop-alloc-smaller
body-loop-alloc-smaller t c = stmt_shortens limits c.args.levels c.loop-alloc.self _ _ c.in_ok-stmt.ensures

pub body-loop-alloc-preserved : goal.body-loop-alloc-preserved
body-loop-alloc-preserved t c =
    let P : List Stmt → Type 0 = λ body. rest_of limits c.args.levels body c.stmt.new.self ≡ body_at (stmt_at limits c.args.levels) c.args.self.now in
    subst P (sym c.in_ok-push.ensures.ok) (rest_more limits c.args.levels c.loop-alloc.body c.loop-alloc.self _ _ _ (sym c.is_key.ensures ∙ c.loop-alloc-test.true) c.in_ok-stmt.ensures c.loop-alloc.invariant)

pub body-returns : goal.body-returns
body-returns t c = rest_end limits c.args.levels c.loop-alloc.body c.loop-alloc.self _ (sym c.is_key.ensures ∙ c.loop-alloc-test.false) c.loop-alloc.invariant

pub stmt-returns-then-levels-eq0 : goal.stmt-returns-then-levels-eq0
stmt-returns-then-levels-eq0 t c = λ free. level_none limits c.args.levels c.args.self.now c.if-levels-eq0.true ∙ c.too_deep_stmt.ensures

pub stmt-returns : goal.stmt-returns
stmt-returns t c =
    let P : Reading Stmt → Type 0 = λ x. Reads c.stmt_with.result c.stmt_with.new.self x in
    subst P (sym (level_less limits c.args.levels c.args.self.now c.if-levels-eq0.false)) c.stmt_with.ensures
