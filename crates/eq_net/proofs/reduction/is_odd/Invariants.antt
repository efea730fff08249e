use Rattle.std.proofs.Common.{◌≡◌}
use Rattle.eq_net.specs.Numbers.{parity}
use Rattle.eq_net.specs.inner.Stack.{part}
use Rattle.eq_net.proofs.reduction.is_odd.Given as goal

abbrev pub invariant-loop-j : goal.invariant-loop-j
invariant-loop-j l = l.odd ≡ parity l.j (part l.stack.items l.from)
