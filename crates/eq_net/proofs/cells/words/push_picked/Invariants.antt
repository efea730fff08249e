use Rattle.std.proofs.Common.{◌≡◌, ℕ, ◌+◌, ◌<◌, length, slice_get, slice_index_or}
use Rattle.eq_net.specs.Meaning.{if_there}
use Rattle.eq_net.specs.declared.types.WordBit.{WordBit}
use Rattle.eq_net.specs.inner.Cells.{Written}
use Rattle.eq_net.specs.inner.Circuits.{row}
use Rattle.eq_net.proofs.cells.words.push_picked.Given as goal

abbrev pub invariant-loop-bit : goal.invariant-loop-bit
invariant-loop-bit l = record {
  written : Written (length l.fn.stack.items) l.bit-index l.fn.stack.items l.stack.items;
  put : (i : ℕ) → i < l.bit-index → slice_index_or l.stack.items (length l.fn.stack.items + i) 0 ≡ if_there 0 (λ (b : WordBit). row l.rows b.word b.bit) (slice_get l.bits i);
}
