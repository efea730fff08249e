use Rattle.std.proofs.Common.{length}
use Rattle.eq_part.specs.inner.Starting.{AreGroupKeys}
use Rattle.eq_part.proofs.starting.group_keys.Given as goal

abbrev pub invariant-loop-group : goal.invariant-loop-group
invariant-loop-group l = AreGroupKeys l.groups (length l.pairs) l.group-index l.keys.items
