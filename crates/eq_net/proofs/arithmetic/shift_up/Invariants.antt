use Rattle.std.proofs.Common.{◌≡◌, ℕ, ◌-◌, ◌<◌, ◌≤◌, false, length, slice_index_or, nat_le, ◌&&◌}
use Rattle.eq_net.specs.inner.Stack.{part}
use Rattle.eq_net.proofs.arithmetic.shift_up.Given as goal

abbrev pub invariant-loop-i : goal.invariant-loop-i
invariant-loop-i l = record {
  size : length l.stack.items ≡ length l.fn.stack.items;
  rest : (k : ℕ) → k < l.right - l.i → slice_index_or l.stack.items k false ≡ slice_index_or l.fn.stack.items k false;
  put : (k : ℕ) → (l.right - l.left) - l.i ≤ k → k < l.right - l.left → part l.stack.items l.left k ≡ (nat_le l.by k && part l.fn.stack.items l.left (k - l.by));
}
