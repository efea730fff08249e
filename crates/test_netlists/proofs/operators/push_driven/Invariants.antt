use Rattle.std.proofs.Common.{◌≡◌, ◌++◌}
use Rattle.test_netlists.specs.Operators.{driven}
use Rattle.test_netlists.proofs.operators.push_driven.Given as goal

abbrev pub invariant-loop-bit : goal.invariant-loop-bit
invariant-loop-bit l = l.out ≡ l.fn.out ++ driven l.word l.bit
