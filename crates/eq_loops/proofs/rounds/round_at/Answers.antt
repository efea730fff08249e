use Rattle.std.proofs.Common.{ℕ, List, refl, subst}
use Rattle.eq_loops.specs.inner.Back.{HasNoEntry}
use Rattle.eq_loops.proofs.Clear.{no_round}
use Rattle.eq_loops.proofs.rounds.round_at.Goals as goal

pub returns-clause-none : goal.returns-clause-none
returns-clause-none c = λ is.
    let back = c.in_ok-back.back in
    no_round c.args.edges.now back.ranks.items back.vias.items c.args.b c.in_ok-back.ensures.back c.in_ok-back.ensures.closed
    (subst (λ (ranks : List ℕ). HasNoEntry c.args.edges.now ranks c.args.b) c.deref.ensures.value (c.in-None.ensures.none refl))
