use Rattle.std.proofs.Common.{◌≡◌, ℕ, ◌<◌, length}
use Rattle.eq_reads.specs.Graph.{from_at, to_at}
use Rattle.eq_part.proofs.path.turned.Given as goal

abbrev pub invariant-loop-edge : goal.invariant-loop-edge
invariant-loop-edge l = record {
  count : length l.all.items ≡ l.edge-index;
  from : (e : ℕ) → e < l.edge-index → from_at l.all.items e ≡ to_at l.edges e;
  to : (e : ℕ) → e < l.edge-index → to_at l.all.items e ≡ from_at l.edges e;
}
