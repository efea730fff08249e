use Rattle.std.proofs.Common.{◌≡◌, ℕ, ◌+◌, ◌^◌, ◌<◌, ◌≤◌, cond, false, length, slice_index_or}
use Rattle.eq_net.specs.Numbers.{number}
use Rattle.eq_net.specs.inner.Stack.{part}
use Rattle.eq_net.proofs.arithmetic.oppose.Given as goal

abbrev pub invariant-loop-j : goal.invariant-loop-j
invariant-loop-j l = record {
  size : length l.stack.items ≡ length l.fn.stack.items;
  kept : (k : ℕ) → k < l.from → slice_index_or l.stack.items k false ≡ slice_index_or l.fn.stack.items k false;
  total : (number l.j (part l.stack.items l.from) + cond {A = ℕ} l.carry (2 ^ l.j) 0) + number l.j (part l.fn.stack.items l.from) ≡ 2 ^ l.j;
  rest : (k : ℕ) → l.from + l.j ≤ k → slice_index_or l.stack.items k false ≡ slice_index_or l.fn.stack.items k false;
}
