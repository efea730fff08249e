use Rattle.std.proofs.Common.{◌≡◌, ◌<◌, ℕ, length}
use Rattle.eq_model.specs.Frames.{values}
use Rattle.eq_match.specs.Pairs.{gold_net}
use Rattle.eq_match.proofs.hitting.of_pairs.Given as goal

abbrev pub invariant-loop-pair : goal.invariant-loop-pair
invariant-loop-pair l = record {
  count : length l.bits ≡ l.pair-index;
  each : (i : ℕ) → i < l.pair-index → values l.bits i ≡ values l.nets (gold_net l.pairs i);
}
