use Rattle.std.proofs.Common.{length}
use Rattle.eq_part.specs.inner.Tabling.{AreWritten}
use Rattle.eq_part.proofs.tables.write_places.Given as goal

abbrev pub invariant-loop-i : goal.invariant-loop-i
invariant-loop-i l = AreWritten l.bits (length l.fn.table) l.i l.table
