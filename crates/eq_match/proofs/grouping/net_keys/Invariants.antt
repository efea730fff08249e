use Rattle.std.proofs.Common.{◌≡◌, ◌<◌, ℕ, length, get_or}
use Rattle.eq_match.specs.Pairs.{gold_net}
use Rattle.eq_match.proofs.grouping.net_keys.Given as goal

abbrev pub invariant-loop-pair : goal.invariant-loop-pair
invariant-loop-pair l = record {
  count : length l.keys.items ≡ l.pair-index;
  each : (i : ℕ) → i < l.pair-index → get_or l.keys.items i 0 ≡ gold_net l.pairs i;
}
