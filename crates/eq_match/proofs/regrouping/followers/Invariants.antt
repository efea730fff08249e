use Rattle.std.proofs.Common.{◌≡◌, ◌<◌, ℕ, length}
use Rattle.eq_model.specs.Frames.{values}
use Rattle.eq_match.specs.Leaders.{leader_at}
use Rattle.eq_match.proofs.regrouping.followers.Given as goal

abbrev pub invariant-loop-leader : goal.invariant-loop-leader
invariant-loop-leader l = record {
  count : length l.bits ≡ l.leader-index;
  each : (i : ℕ) → i < l.leader-index → values l.bits i ≡ values l.marks (leader_at l.leaders i);
}
