use Rattle.std.proofs.Common.{◌≡◌, ℕ, ◌<◌, length, slice_index_or}
use Rattle.eq_model.specs.Frames.{values}
use Rattle.eq_net.specs.Net.{driver_at}
use Rattle.eq_net.specs.Whole.{parts_of}
use Rattle.eq_net.specs.inner.Circuits.{link_of}
use Rattle.eq_net.proofs.cells.completion.links.Given as goal

abbrev pub invariant-loop-b : goal.invariant-loop-b
invariant-loop-b l = record {
  size : length l.links.items ≡ l.b;
  each : (k : ℕ) → k < l.b → slice_index_or l.links.items k 0 ≡ link_of (driver_at (parts_of l.net) k) (values l.done k) (values l.now k) l.rows;
}
