-- Numbers of nodes by which a graph is cut into components.
use Rattle.std.specs.Prelude.{ℕ, ◌<◌, ◌≤◌, List, length, slice_index}
use Rattle.eq_reads.specs.declared.graph.Edge.{Edge}
use Rattle.eq_reads.specs.Graph.{from_at, to_at}

-- the numbers don't fall along any edge. A node behind the last number has the number 0
abbrev pub NeverFall : List Edge → List ℕ → Type 0
NeverFall edges numbers =
    (e : ℕ) → e < length edges → slice_index numbers (from_at edges e) ≤ slice_index numbers (to_at edges e)
