use Rattle.eq_part.specs.inner.Tabling.{AreOwnedBy}
use Rattle.eq_part.proofs.tables.own.Given as goal

abbrev pub invariant-loop-k : goal.invariant-loop-k
invariant-loop-k l = AreOwnedBy l.part l.outputs l.k l.fn.table l.table
