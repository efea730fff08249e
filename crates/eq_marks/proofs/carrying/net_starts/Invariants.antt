use Rattle.std.proofs.Common.{◌≡◌, ℕ, ◌<◌, length, slice_index_or}
use Rattle.eq_net.specs.Net.{offset}
use Rattle.eq_marks.proofs.carrying.net_starts.Given as goal

abbrev pub invariant-loop-net : goal.invariant-loop-net
invariant-loop-net l = record {
  first : l.first ≡ offset l.nets l.net-index;
  count : length l.starts.items ≡ l.net-index;
  each : (k : ℕ) → k < l.net-index → slice_index_or l.starts.items k 0 ≡ offset l.nets k;
}
