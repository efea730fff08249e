use Rattle.eq_part.specs.inner.Wholes.{AreKept}
use Rattle.eq_part.proofs.wholes.net_leaders.Given as goal

abbrev pub invariant-loop-position : goal.invariant-loop-position
invariant-loop-position l = AreKept l.pairs l.leaders l.kept.items l.nets l.position
