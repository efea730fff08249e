use Rattle.std.proofs.Common.{◌≡◌, ℕ, ◌+◌, ◌<◌, ◌≤◌, None, length, slice_index_or}
use Rattle.eq_marks.proofs.marks.extend.Given as goal

abbrev pub invariant-loop : goal.invariant-loop
invariant-loop l = record {
  size : length l.stack.items ≡ length l.fn.stack.items + l.counter;
  kept : (k : ℕ) → k < length l.fn.stack.items → slice_index_or l.stack.items k None ≡ slice_index_or l.fn.stack.items
      k None;
  nothing : (k : ℕ) → length l.fn.stack.items ≤ k → slice_index_or l.stack.items k None ≡ None;
}
