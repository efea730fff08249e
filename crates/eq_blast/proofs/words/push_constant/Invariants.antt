use Rattle.std.proofs.Common.{◌≡◌, ℕ, ◌+◌, ◌<◌, cond, false, length, slice_index_or}
use Rattle.eq_blast.specs.inner.Stack.{Written}
use Rattle.eq_blast.proofs.words.push_constant.Given as goal

abbrev pub invariant-loop-bit : goal.invariant-loop-bit
invariant-loop-bit l = record {
  written : Written (length l.fn.stack.items) l.bit-index l.fn.stack.items l.stack.items;
  put : (i : ℕ) → i < l.bit-index → slice_index_or l.stack.items (length l.fn.stack.items + i) 0 ≡ cond {A = ℕ} (slice_index_or l.bits i false) 1 0;
}
