use Rattle.std.proofs.Common.{◌≡◌, ℕ, ◌<◌, Some, false, length, slice_index_or}
use Rattle.eq_net.specs.inner.Circuits.{value_of}
use Rattle.eq_net.proofs.cells.walk.settled.Given as goal

abbrev pub invariant-loop-value : goal.invariant-loop-value
invariant-loop-value l = record {
  size : length l.bits.items ≡ l.value-index;
  each : (k : ℕ) → k < l.value-index → value_of l.values k ≡ Some (slice_index_or l.bits.items k false);
}
