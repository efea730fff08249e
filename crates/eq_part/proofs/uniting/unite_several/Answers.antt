use Rattle.std.proofs.Common.{subst}
use Rattle.eq_model.specs.Frames.{values}
use Rattle.eq_part.specs.inner.States.{AreForgotten}
use Rattle.eq_part.proofs.United.{become_one, still_state}
use Rattle.eq_part.proofs.uniting.unite_several.Goals as goal

pub returns-clause-state : goal.returns-clause-state
returns-clause-state c = still_state c.args.pairs.now c.args.state (values c.args.marks.now) c.requires.state c.requires.marks _
    c.requires.several c.in_ok-state.ensures.count c.in_ok-state.ensures.leaders c.in_ok-state.ensures.classes
    (subst (λ n. AreForgotten (values c.args.marks.now) n c.args.state.names c.forget.new.names) c.requires.count c.forget.ensures)

pub returns-clause-united : goal.returns-clause-united
returns-clause-united c = become_one c.args.pairs.now c.args.state (values c.args.marks.now) c.requires.state c.requires.marks _
    c.requires.several c.in_ok-state.ensures.count c.in_ok-state.ensures.leaders c.in_ok-state.ensures.classes
    (subst (λ n. AreForgotten (values c.args.marks.now) n c.args.state.names c.forget.new.names) c.requires.count c.forget.ensures)
