use Rattle.std.proofs.Common.{◌≡◌, ℕ, ◌<◌, slice_index_or}
use Rattle.eq_model.specs.Frames.{values}
use Rattle.eq_net.specs.inner.Circuits.{cells_of}
use Rattle.eq_net.proofs.cells.completion.put_values.Given as goal

abbrev pub invariant-loop-b : goal.invariant-loop-b
invariant-loop-b l = (k : ℕ) → k < l.b → values l.now k ≡ cells_of l.bits (slice_index_or l.links k 0)
