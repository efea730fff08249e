use Rattle.std.proofs.Common.{ℕ, ◌<◌, ◌≤◌, slice_index}
use Rattle.eq_reads.specs.Graph.{from_at, to_at}
use Rattle.eq_loops.proofs.components.fall.Given as goal

abbrev pub invariant-loop-edge : goal.invariant-loop-edge
invariant-loop-edge l =
    (e : ℕ) → e < l.edge-index → slice_index l.numbers (from_at l.edges e) ≤ slice_index l.numbers (to_at l.edges e)
