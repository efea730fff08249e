use Rattle.std.proofs.Common.{◌≡◌}
use Rattle.eq_net.specs.Tree.{trees_of}
use Rattle.test_netlists.specs.Ripple.{carries}
use Rattle.test_netlists.proofs.ripple.carries.Given as goal

abbrev pub invariant-loop-place : goal.invariant-loop-place
invariant-loop-place l = trees_of l.words ≡ carries l.place
