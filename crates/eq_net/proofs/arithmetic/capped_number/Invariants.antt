use Rattle.std.proofs.Common.{◌≡◌, ◌^◌, min}
use Rattle.eq_net.specs.Numbers.{number}
use Rattle.eq_net.specs.inner.Stack.{part}
use Rattle.eq_net.proofs.arithmetic.capped_number.Given as goal

abbrev pub invariant-loop-j : goal.invariant-loop-j
invariant-loop-j l = record {
  sum : l.sum ≡ min l.most (number l.j (part l.stack.items l.from));
  weight : l.weight ≡ min l.most (2 ^ l.j);
}
