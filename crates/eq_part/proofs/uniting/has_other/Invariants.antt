use Rattle.std.proofs.Common.{◌≡◌, ◌<◌, ℕ, true}
use Rattle.eq_model.specs.Frames.{values}
use Rattle.eq_match.specs.Leaders.{leader_at}
use Rattle.eq_part.specs.inner.States.{is_chosen}
use Rattle.eq_part.proofs.uniting.has_other.Given as goal

abbrev pub invariant-loop-position : goal.invariant-loop-position
invariant-loop-position l = (i : ℕ) → i < l.position → is_chosen l.pairs (values l.marks) i ≡ true →
    leader_at l.leaders i ≡ l.leader
