use Rattle.std.proofs.Common.{ℕ, ◌<◌}
use Rattle.eq_model.specs.Frames.{values}
use Rattle.eq_bits.specs.inner.Replaying.{IsSameAt}
use Rattle.eq_bits.proofs.run.first_output.Given as goal

abbrev pub invariant-loop-o : goal.invariant-loop-o
invariant-loop-o l = (p : ℕ) → p < l.o → IsSameAt l.outputs (values l.scratch) p
