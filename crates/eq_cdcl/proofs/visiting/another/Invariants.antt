use Rattle.std.proofs.Common.{take}
use Rattle.eq_cdcl.specs.inner.Visiting.{AreFalseBut}
use Rattle.eq_cdcl.proofs.visiting.another.Given as goal

abbrev pub invariant-loop-l : goal.invariant-loop-l
invariant-loop-l l = AreFalseBut l.trail.lits (take l.l-index l.clause) l.other
