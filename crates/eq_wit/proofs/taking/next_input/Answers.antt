use Rattle.std.proofs.Common.{ℕ, subst, sym}
use Rattle.eq_wit.specs.declared.state.State.TheVariants as state
use Rattle.eq_wit.specs.inner.Items.{Judges}
use Rattle.eq_wit.proofs.taking.next_input.Goals as goal

pub returns-then-left-eq0 : goal.returns-then-left-eq0
returns-then-left-eq0 c = subst (λ (n : ℕ). Judges (state.Inputs c.args.draft n) c.args.words.now c.inputs_over.result)
    (sym c.if-left-eq0.true) c.inputs_over.ensures
