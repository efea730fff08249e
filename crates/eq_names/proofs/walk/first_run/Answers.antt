use Rattle.std.proofs.Common.{sym, subst, ◌∙◌, Option, ℕ}
use Rattle.std.specs.Prelude.{IfSome, IfNone}
use Rattle.eq_names.specs.inner.Segments.{IsRunBefore, HasNoRunBefore, IsFirstRun, HasNoRun}
use Rattle.eq_names.proofs.Stepping.{map_some, map_none, star_some, star_none, byte_some, byte_none}
use Rattle.eq_names.proofs.walk.first_run.Goals as goal

pub returns-then-is_run-clause-some : goal.returns-then-is_run-clause-some
returns-then-is_run-clause-some c =
    let p = c.args.piece.now in
    let after = c.args.after.now in
    let name = c.args.name.now in
    map_some c.run_before.result (IsRunBefore after name) (IsFirstRun p after name) (star_some p after name
    (sym c.is_run.ensures ∙ c.if-is_run.true)) c.run_before.ensures.some

pub returns-then-is_run-clause-none : goal.returns-then-is_run-clause-none
returns-then-is_run-clause-none c =
    let p = c.args.piece.now in
    let after = c.args.after.now in
    let name = c.args.name.now in
    map_none c.run_before.result (HasNoRunBefore after name) (HasNoRun p after name)
    (star_none p after name) c.run_before.ensures.none

pub returns-else-is_run-clause-some : goal.returns-else-is_run-clause-some
returns-else-is_run-clause-some c =
    let p = c.args.piece.now in
    let after = c.args.after.now in
    let name = c.args.name.now in
    subst (λ (o : Option ℕ). IfSome o (IsFirstRun p after name)) (sym c.byte_run.ensures) (byte_some p after name
    (sym c.is_run.ensures ∙ c.if-is_run.false))

pub returns-else-is_run-clause-none : goal.returns-else-is_run-clause-none
returns-else-is_run-clause-none c =
    let p = c.args.piece.now in
    let after = c.args.after.now in
    let name = c.args.name.now in
    subst (λ (o : Option ℕ). IfNone o (HasNoRun p after name)) (sym c.byte_run.ensures) (byte_none p after name
    (sym c.is_run.ensures ∙ c.if-is_run.false))
