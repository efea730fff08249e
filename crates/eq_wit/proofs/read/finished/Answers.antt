use Rattle.std.proofs.Common.{[], subst}
use Rattle.eq_wit.specs.declared.state.State.{State}
use Rattle.eq_wit.specs.inner.Judging.{IsReached}
use Rattle.eq_wit.proofs.ReadLemmas.{stops_at_end}
use Rattle.eq_wit.proofs.read.finished.Goals as goal

pub evidence-requires : goal.evidence-requires
evidence-requires c = subst (λ (s : State). IsReached c.args.text.now s c.args.line []) c.in-Some.ensures
    c.requires.at.reached

pub returns-in-None : goal.returns-in-None
returns-in-None c = stops_at_end c.args.text.now c.args.state c.args.line c.requires.at c.in-None.ensures
