use Rattle.std.proofs.Common.{◌≡◌, ℕ, ◌<◌, slice_index}
use Rattle.eq_reads.specs.Graph.{from_at, to_at}
use Rattle.eq_loops.proofs.rounds.entry_of.Given as goal

abbrev pub invariant-loop-edge : goal.invariant-loop-edge
invariant-loop-edge l = (e : ℕ) → e < l.edge-index → from_at l.edges e ≡ l.b → slice_index l.ranks (to_at l.edges e) ≡ 0
