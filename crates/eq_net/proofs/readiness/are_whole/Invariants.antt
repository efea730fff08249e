use Rattle.std.proofs.Common.{◌≡◌, ℕ, ◌<◌, slice_index_or, true}
use Rattle.eq_model.specs.Frames.{values}
use Rattle.eq_net.specs.declared.types.WordBit.{WordBit}
use Rattle.eq_net.proofs.readiness.are_whole.Given as goal

abbrev pub invariant-loop-bit : goal.invariant-loop-bit
invariant-loop-bit l = (k : ℕ) (d : WordBit) → k < l.bit-index → values l.whole (slice_index_or l.bits k d).word ≡ true
