use Rattle.std.proofs.Common.{ℕ, subst, sym}
use Rattle.eq_wit.specs.declared.state.State.TheVariants as state
use Rattle.eq_wit.specs.inner.Items.{Judges}
use Rattle.eq_wit.proofs.taking.next_node.Goals as goal

pub returns-then-left-eq0 : goal.returns-then-left-eq0
returns-then-left-eq0 c = subst (λ (n : ℕ). Judges (state.Nodes c.args.draft c.args.seen n) c.args.words.now c.nodes_over.result)
    (sym c.if-left-eq0.true) c.nodes_over.ensures
