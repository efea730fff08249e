use Rattle.std.proofs.Common.{◌≡◌, ℕ, suc, ◌+◌, ◌<◌, ◌≤◌, None, length, slice_index_or}
use Rattle.eq_marks.specs.inner.Marks.{mixed_all, part}
use Rattle.eq_marks.proofs.marks.mix_up.Given as goal

abbrev pub invariant-loop-j : goal.invariant-loop-j
invariant-loop-j l = record {
  size : length l.stack.items ≡ length l.fn.stack.items;
  all : l.all ≡ mixed_all l.way l.j (part l.fn.stack.items l.from);
  kept : (k : ℕ) → k < l.from → slice_index_or l.stack.items k None ≡ slice_index_or l.fn.stack.items k None;
  put : (i : ℕ) → i < l.j → part l.stack.items l.from i ≡ mixed_all l.way (suc i) (part l.fn.stack.items l.from);
  rest : (k : ℕ) → l.from + l.j ≤ k → slice_index_or l.stack.items k None ≡ slice_index_or l.fn.stack.items k None;
}
