use Rattle.std.proofs.Common.{◌≡◌}
use Rattle.eq_net.specs.Numbers.{some_one}
use Rattle.eq_net.specs.inner.Stack.{part}
use Rattle.eq_net.proofs.reduction.has_one.Given as goal

abbrev pub invariant-loop-j : goal.invariant-loop-j
invariant-loop-j l = l.some ≡ some_one l.j (part l.stack.items l.from)
