use Rattle.std.proofs.Common.{◌≡◌}
use Rattle.test_netlists.specs.Operators.{drivers}
use Rattle.test_netlists.proofs.operators.drivers.Given as goal

abbrev pub invariant-loop-word : goal.invariant-loop-word
invariant-loop-word l = l.drivers ≡ drivers l.width l.word
