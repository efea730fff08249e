use Rattle.std.proofs.Common.{◌≡◌, ◌<◌, ◌↔◌, ℕ, true, length}
use Rattle.eq_model.specs.Frames.{values}
use Rattle.eq_names.specs.Patterns.{Matches}
use Rattle.eq_net.specs.Net.{name_at}
use Rattle.eq_match.proofs.hitting.net_hits.Given as goal

abbrev pub invariant-loop-net : goal.invariant-loop-net
invariant-loop-net l = record {
  count : length l.bits ≡ l.net-index;
  each : (k : ℕ) → k < l.net-index → (values l.bits k ≡ true) ↔ Matches l.pattern (name_at l.nets k);
}
