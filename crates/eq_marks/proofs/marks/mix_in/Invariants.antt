use Rattle.std.proofs.Common.{◌≡◌, ℕ, ◌+◌, ◌<◌, ◌≤◌, None, length, slice_index_or}
use Rattle.eq_marks.specs.inner.Marks.{mixed, part}
use Rattle.eq_marks.proofs.marks.mix_in.Given as goal

abbrev pub invariant-loop-j : goal.invariant-loop-j
invariant-loop-j l = record {
  size : length l.stack.items ≡ length l.fn.stack.items;
  kept : (k : ℕ) → k < l.from → slice_index_or l.stack.items k None ≡ slice_index_or l.fn.stack.items k None;
  put : (i : ℕ) → i < l.j → part l.stack.items l.from i ≡ mixed l.way (part l.fn.stack.items l.from i) l.mark;
  rest : (k : ℕ) → l.from + l.j ≤ k → slice_index_or l.stack.items k None ≡ slice_index_or l.fn.stack.items k None;
}
