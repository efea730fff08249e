use Rattle.std.proofs.Common.{◌≡◌, ◌++◌}
use Rattle.test_plans.specs.Designs.{copies}
use Rattle.test_plans.proofs.designs.push_copies.Given as goal

abbrev pub invariant-loop : goal.invariant-loop
invariant-loop l = l.out ≡ l.fn.out ++ copies l.driver l.counter
