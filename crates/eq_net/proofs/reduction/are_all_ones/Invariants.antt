use Rattle.std.proofs.Common.{◌≡◌}
use Rattle.eq_net.specs.Numbers.{all_ones}
use Rattle.eq_net.specs.inner.Stack.{part}
use Rattle.eq_net.proofs.reduction.are_all_ones.Given as goal

abbrev pub invariant-loop-j : goal.invariant-loop-j
invariant-loop-j l = l.all ≡ all_ones l.j (part l.stack.items l.from)
