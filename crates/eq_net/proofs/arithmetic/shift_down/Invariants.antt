use Rattle.std.proofs.Common.{◌≡◌, ℕ, ◌+◌, ◌-◌, ◌<◌, ◌≤◌, false, length, slice_index_or, nat_lt, ◌&&◌}
use Rattle.eq_net.specs.inner.Stack.{part}
use Rattle.eq_net.proofs.arithmetic.shift_down.Given as goal

abbrev pub invariant-loop-j : goal.invariant-loop-j
invariant-loop-j l = record {
  size : length l.stack.items ≡ length l.fn.stack.items;
  kept : (k : ℕ) → k < l.left → slice_index_or l.stack.items k false ≡ slice_index_or l.fn.stack.items k false;
  put : (k : ℕ) → k < l.j → part l.stack.items l.left k ≡ (nat_lt k ((l.right - l.left) - l.by) && part l.fn.stack.items l.left (l.by + k));
  rest : (k : ℕ) → l.left + l.j ≤ k → slice_index_or l.stack.items k false ≡ slice_index_or l.fn.stack.items k false;
}
