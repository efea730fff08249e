use Rattle.std.proofs.Common.{◌≡◌, ℕ, ◌-◌, ◌<◌, length}
use Rattle.eq_model.specs.System.{Values}
use Rattle.eq_bits.specs.Replay.{IsReplay, IsSame, meaning}
use Rattle.eq_bits.specs.inner.Replaying.{HasCycle}
use Rattle.eq_bits.proofs.run.replay.Given as goal

abbrev pub invariant-loop-c : goal.invariant-loop-c
invariant-loop-c l = record {
  size : length l.scratch ≡ length l.part.nodes;
  before : 0 < l.c → HasCycle l.part l.run (l.c - 1) l.scratch;
  same : (x : ℕ → Values) → IsReplay l.part l.run x → IsSame (meaning l.part) l.c x;
}
