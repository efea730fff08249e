use Rattle.std.proofs.Common.{◌≡◌, ℕ, ◌+◌, ◌-◌, ◌<◌, cond, nat_le, length, slice_index_or}
use Rattle.eq_net.proofs.cells.numbers.push_raised.Given as goal

abbrev pub invariant-loop-j : goal.invariant-loop-j
invariant-loop-j l = record {
  size : length l.stack.items ≡ length l.fn.stack.items + l.j;
  kept : (k : ℕ) → k < length l.fn.stack.items → slice_index_or l.stack.items k 0 ≡ slice_index_or l.fn.stack.items k 0;
  put : (i : ℕ) → i < l.j → slice_index_or l.stack.items (length l.fn.stack.items + i) 0 ≡ cond {A = ℕ} (nat_le l.by i) (slice_index_or l.fn.stack.items (l.from + (i - l.by)) 0) 0;
}
