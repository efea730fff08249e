use Rattle.std.proofs.Common.{◌≡◌, ℕ, ◌+◌, ◌<◌, false, length, slice_index_or}
use Rattle.eq_net.specs.inner.Cells.{Written}
use Rattle.eq_net.specs.inner.Circuits.{constant_number}
use Rattle.eq_net.proofs.cells.words.push_constants.Given as goal

abbrev pub invariant-loop-bit : goal.invariant-loop-bit
invariant-loop-bit l = record {
  written : Written (length l.fn.stack.items) l.bit-index l.fn.stack.items l.stack.items;
  put : (i : ℕ) → i < l.bit-index → slice_index_or l.stack.items (length l.fn.stack.items + i) 0 ≡ constant_number (slice_index_or l.bits i false);
}
