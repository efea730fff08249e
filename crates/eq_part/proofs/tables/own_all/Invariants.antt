use Rattle.std.proofs.Common.{length}
use Rattle.eq_part.specs.inner.Tabling.{AreOwned}
use Rattle.eq_part.proofs.tables.own_all.Given as goal

abbrev pub invariant-loop-q : goal.invariant-loop-q
invariant-loop-q l = AreOwned l.parts (length l.fn.table) l.q l.table
