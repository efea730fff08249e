use Rattle.std.proofs.Common.{◌≡◌, ℕ, ◌+◌, ◌<◌, ◌≤◌, false, length, slice_index_or}
use Rattle.eq_net.specs.inner.Stack.{part}
use Rattle.eq_net.proofs.stack.move_down.Given as goal

abbrev pub invariant-loop-j : goal.invariant-loop-j
invariant-loop-j l = record {
  size : length l.stack.items ≡ length l.fn.stack.items;
  kept : (k : ℕ) → k < l.to → slice_index_or l.stack.items k false ≡ slice_index_or l.fn.stack.items k false;
  put : (i : ℕ) → i < l.j → part l.stack.items l.to i ≡ part l.fn.stack.items l.from i;
  rest : (k : ℕ) → l.to + l.j ≤ k → slice_index_or l.stack.items k false ≡ slice_index_or l.fn.stack.items k false;
}
