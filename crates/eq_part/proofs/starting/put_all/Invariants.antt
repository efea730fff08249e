use Rattle.std.proofs.Common.{take}
use Rattle.eq_part.specs.inner.Starting.{ArePut}
use Rattle.eq_part.proofs.starting.put_all.Given as goal

abbrev pub invariant-loop-position : goal.invariant-loop-position
invariant-loop-position l = ArePut l.initial.keys.items (take l.position-index l.list) l.key l.keys.items
