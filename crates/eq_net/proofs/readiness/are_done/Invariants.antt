use Rattle.std.proofs.Common.{◌≡◌, ℕ, ◌<◌, slice_index_or, true}
use Rattle.eq_model.specs.Frames.{values}
use Rattle.eq_names.specs.declared.BitName.{BitName}
use Rattle.eq_net.specs.Net.{number_of}
use Rattle.eq_net.proofs.readiness.are_done.Given as goal

abbrev pub invariant-loop-name : goal.invariant-loop-name
invariant-loop-name l = (k : ℕ) (d : BitName) → k < l.name-index → values l.done (number_of l.nets (slice_index_or l.names k d)) ≡ true
