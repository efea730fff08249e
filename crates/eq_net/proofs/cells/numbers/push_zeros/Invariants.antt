use Rattle.std.proofs.Common.{◌≡◌, ℕ, ◌+◌, ◌<◌, ◌≤◌, length, slice_index_or}
use Rattle.eq_net.proofs.cells.numbers.push_zeros.Given as goal

abbrev pub invariant-loop : goal.invariant-loop
invariant-loop l = record {
  size : length l.stack.items ≡ length l.fn.stack.items + l.counter;
  kept : (k : ℕ) → k < length l.fn.stack.items → slice_index_or l.stack.items k 0 ≡ slice_index_or l.fn.stack.items k 0;
  zeros : (k : ℕ) → length l.fn.stack.items ≤ k → k < length l.stack.items → slice_index_or l.stack.items k 0 ≡ 0;
}
