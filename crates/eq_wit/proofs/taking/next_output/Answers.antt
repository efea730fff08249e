use Rattle.std.proofs.Common.{ℕ, subst, sym}
use Rattle.eq_wit.specs.declared.state.State.TheVariants as state
use Rattle.eq_wit.specs.inner.Items.{Judges}
use Rattle.eq_wit.specs.inner.Standing.{Stands}
use Rattle.eq_wit.proofs.taking.next_output.Goals as goal

pub outputs_over-requires : goal.outputs_over-requires
outputs_over-requires c = subst (λ (n : ℕ). Stands (state.Outputs c.args.draft n)) c.if-left-eq0.true c.requires

pub returns-then-left-eq0 : goal.returns-then-left-eq0
returns-then-left-eq0 c = subst (λ (n : ℕ). Judges (state.Outputs c.args.draft n) c.args.words.now c.outputs_over.result)
    (sym c.if-left-eq0.true) c.outputs_over.ensures
