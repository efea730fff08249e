use Rattle.std.proofs.Common.{◌≡◌, ◌++◌}
use Rattle.test_netlists.specs.Operators.{inputs}
use Rattle.test_netlists.proofs.operators.push_inputs.Given as goal

abbrev pub invariant-loop : goal.invariant-loop
invariant-loop l = l.out ≡ l.fn.out ++ inputs l.counter
