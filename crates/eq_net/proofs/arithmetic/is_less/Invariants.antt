use Rattle.std.proofs.Common.{◌≡◌, nat_lt}
use Rattle.eq_net.specs.Numbers.{number}
use Rattle.eq_net.specs.inner.Stack.{part}
use Rattle.eq_net.proofs.arithmetic.is_less.Given as goal

abbrev pub invariant-loop-j : goal.invariant-loop-j
invariant-loop-j l = l.less ≡ nat_lt (number l.j (part l.stack.items l.left)) (number l.j (part l.stack.items l.right))
