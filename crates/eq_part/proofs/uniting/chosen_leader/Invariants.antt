use Rattle.std.proofs.Common.{◌≡◌, ◌<◌, ℕ, false}
use Rattle.eq_model.specs.Frames.{values}
use Rattle.eq_part.specs.inner.States.{is_chosen}
use Rattle.eq_part.proofs.uniting.chosen_leader.Given as goal

abbrev pub invariant-loop-position : goal.invariant-loop-position
invariant-loop-position l = (i : ℕ) → i < l.position → is_chosen l.pairs (values l.marks) i ≡ false
