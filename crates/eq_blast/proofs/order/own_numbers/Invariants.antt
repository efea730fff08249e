use Rattle.eq_blast.specs.inner.Planned.{AreOwnNumbers}
use Rattle.eq_blast.proofs.order.own_numbers.Given as goal

abbrev pub invariant-loop-b : goal.invariant-loop-b
invariant-loop-b l = AreOwnNumbers l.places l.b l.own
