use Rattle.std.proofs.Common.{◌≤◌, ℕ, Bool, false, List, length, arith, refl, ap, ◌∙◌}
use Rattle.std.specs.Prelude.{codes, replicate}
use Rattle.eq_wit.specs.declared.state.State.TheVariants as state
use Rattle.eq_wit.specs.inner.Reading.{count_line}
use Rattle.eq_wit.proofs.TakeLemmas.{stopped_here}
use Rattle.eq_wit.proofs.taking.inputs_over.Goals as goal

pub returns-in_ok-seen-in-Ok : goal.returns-in_ok-seen-in-Ok
returns-in_ok-seen-in-Ok c = (
  count_line (codes "nodes") c.in-Ok.left,
  (
    c.in-Ok.left,
    omega (arith, c.in-Ok.ensures.fits),
    refl,
    ap (λ (seen : List Bool). state.Nodes c.args.draft seen c.in-Ok.left) (c.in_ok-seen-in-Ok.ensures
        ∙ ap (λ (n : ℕ). replicate n false) c.len.ensures),
  ),
  c.in-Ok.ensures.words,
)

pub returns-in-Err : goal.returns-in-Err
returns-in-Err c = stopped_here (state.Inputs c.args.draft 0) (count_line (codes "nodes")) (λ (n : ℕ). n ≤ 4294967295)
    (λ n. state.Nodes c.args.draft (replicate (length c.args.draft.inputs) false) n) c.args.words.now
    (λ n h. (n, omega (arith, h), refl, refl)) c.in-Err.stop (λ l next f. (f.0, omega (arith, f.1), f.2)) (λ t e. cc (e))
    (λ x fits form again. again) c.in-Err.ensures
