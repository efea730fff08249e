use Rattle.std.proofs.Common.{◌≡◌, ℕ, ◌+◌, ◌<◌, ◌≤◌, length, slice_index_or}
use Rattle.eq_net.proofs.cells.numbers.move_down.Given as goal

abbrev pub invariant-loop-j : goal.invariant-loop-j
invariant-loop-j l = record {
  size : length l.stack.items ≡ length l.fn.stack.items;
  kept : (k : ℕ) → k < l.to → slice_index_or l.stack.items k 0 ≡ slice_index_or l.fn.stack.items k 0;
  put : (i : ℕ) → i < l.j → slice_index_or l.stack.items (l.to + i) 0 ≡ slice_index_or l.fn.stack.items (l.from + i) 0;
  rest : (k : ℕ) → l.to + l.j ≤ k → slice_index_or l.stack.items k 0 ≡ slice_index_or l.fn.stack.items k 0;
}
