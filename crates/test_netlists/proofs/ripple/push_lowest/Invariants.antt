use Rattle.std.proofs.Common.{◌≡◌, ◌++◌}
use Rattle.test_netlists.specs.Ripple.{lowest}
use Rattle.test_netlists.proofs.ripple.push_lowest.Given as goal

abbrev pub invariant-loop-word : goal.invariant-loop-word
invariant-loop-word l = l.out ≡ l.fn.out ++ lowest l.word
