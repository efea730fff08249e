use Rattle.test_plans.specs.Ports.{AreFound}
use Rattle.test_plans.proofs.ports.are_found.Given as goal

abbrev pub invariant-loop-k : goal.invariant-loop-k
invariant-loop-k l = AreFound l.others l.nets l.k
