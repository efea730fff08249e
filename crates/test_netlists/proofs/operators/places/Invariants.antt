use Rattle.std.proofs.Common.{◌≡◌}
use Rattle.test_netlists.specs.Operators.{places}
use Rattle.test_netlists.proofs.operators.places.Given as goal

abbrev pub invariant-loop-bit : goal.invariant-loop-bit
invariant-loop-bit l = l.names ≡ places l.net l.bit
