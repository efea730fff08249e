use Rattle.std.proofs.Common.{subst}
use Rattle.eq_proof.specs.Propagation.{Sweeps}
use Rattle.eq_proof.proofs.propagation.propagate.Goals as goal

pub returns-in-Conflicting-clause-answer : goal.returns-in-Conflicting-clause-answer
returns-in-Conflicting-clause-answer c =
    let refused = subst (Sweeps c.args.before.now c.loop.trail c.sweep.new.trail) c.in-Conflicting.is c.in_ok-sweep.ensures.answer in
    λ set settled sub. refused set settled (c.loop.invariant.forced set settled sub)
