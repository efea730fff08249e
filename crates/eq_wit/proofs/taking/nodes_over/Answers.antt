use Rattle.std.proofs.Common.{◌≤◌, ℕ, refl, subst, sym}
use Rattle.std.specs.Prelude.{codes}
use Rattle.eq_wit.specs.declared.state.State.TheVariants as state
use Rattle.eq_wit.specs.Line.{HasForm}
use Rattle.eq_wit.specs.inner.Reading.{count_line}
use Rattle.eq_wit.proofs.InputForms.{differ}
use Rattle.eq_wit.proofs.TakeLemmas.{stopped_here}
use Rattle.eq_wit.proofs.taking.nodes_over.Goals as goal

pub returns-in-Ok : goal.returns-in-Ok
returns-in-Ok c = (
  count_line (codes "outputs") c.in-Ok.left,
  (c.in-Ok.left, (c.most_outputs-most.ensures c.in-Ok.left).0 c.in-Ok.ensures.fits, refl, refl),
  c.in-Ok.ensures.words,
)

pub returns-in-Err : goal.returns-in-Err
returns-in-Err c = stopped_here (state.Nodes c.args.draft c.args.seen 0) (count_line (codes "outputs"))
    (λ (n : ℕ). n ≤ c.most_outputs-most.result) (λ n. state.Outputs c.args.draft n) c.args.words.now
    (λ n h. (n, (c.most_outputs-most.ensures n).0 h, refl, refl)) c.in-Err.stop
    (λ l next f. (f.0, (c.most_outputs-most.ensures f.0).1 f.1, f.2)) (λ t e. cc (e))
    (λ n fits form again. differ (codes "outputs") (codes "input") refl refl
    (sym (subst (HasForm (count_line (codes "outputs") n)) again.3 form).0)) c.in-Err.ensures
