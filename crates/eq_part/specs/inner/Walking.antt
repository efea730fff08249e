-- Mirrors src/reached.rt; nothing here has to be believed.
-- The edges of each node as a chain of links, and a walk that marks nodes and puts them into a queue.
use Rattle.std.specs.Prelude.{◌≡◌, ◌==◌, ℕ, zero, suc, ◌+◌, ◌<◌, ◌≤◌, ◌⊎◌, Bool, true, false, if◌then◌else◌, List, [], ◌∷◌, length}
use Rattle.eq_model.specs.Frames.{values}
use Rattle.eq_reads.specs.declared.graph.Edge.{Edge}
use Rattle.eq_reads.specs.Graph.{from_at, to_at}
use Rattle.eq_reads.specs.Words.{number_at}

-- one more than the number of the last of the first k edges that begins at v, 0 where none does
abbrev pub last_from : List Edge → ℕ → ℕ → ℕ
last_from edges v zero = 0
last_from edges v (suc k) = if from_at edges k == v then suc k else last_from edges v k

-- for each node its last edge among the first k, and for each of these the last edge before it from the same node
pub record AreLinks (edges : List Edge) (k nodes : ℕ) (last before : List ℕ) : Type 0 where
  pub nodes_are : length last ≡ nodes
  pub edges_are : length before ≡ k
  pub lasts : (v : ℕ) → v < nodes → number_at last v ≡ last_from edges v k
  pub befores : (e : ℕ) → e < k → number_at before e ≡ last_from edges (from_at edges e) e

-- how many aren't marked
abbrev pub unmarked : List Bool → ℕ
unmarked [] = 0
unmarked (true ∷ marks) = unmarked marks
unmarked (false ∷ marks) = suc (unmarked marks)

-- x stands in the queue, from place k on
abbrev pub Waits : List ℕ → ℕ → ℕ → Type 0
Waits queue k x = (place : ℕ) × (k ≤ place) × (place < length queue) × (number_at queue place ≡ x)

-- nodes were marked, and each of these was put at the end of the queue
pub record Grew (marks after : List Bool) (queue now : List ℕ) : Type 0 where
  pub kept : (x : ℕ) → values marks x ≡ true → values after x ≡ true
  pub longer : length queue ≤ length now
  pub stays : (k : ℕ) → k < length queue → number_at now k ≡ number_at queue k
  pub new : (x : ℕ) → values after x ≡ true → (values marks x ≡ true) ⊎ Waits now (length queue) x
  pub there : (k : ℕ) → length queue ≤ k → k < length now →
      (number_at now k < length marks) × (values after (number_at now k) ≡ true)
  pub counted : length now + unmarked after ≡ length queue + unmarked marks

-- the edges of the node lead to marked nodes
abbrev pub IsSettled : List Edge → List Bool → ℕ → Type 0
IsSettled edges marks v = (e : ℕ) → e < length edges → from_at edges e ≡ v → values marks (to_at edges e) ≡ true

-- the nodes in the queue before the head are settled
pub record IsUnderway (edges : List Edge) (marks : List Bool) (queue : List ℕ) (head : ℕ) : Type 0 where
  pub settled : (x : ℕ) → values marks x ≡ true → IsSettled edges marks x ⊎ Waits queue head x
  pub there : (k : ℕ) → k < length queue →
      (number_at queue k < length marks) × (values marks (number_at queue k) ≡ true)
  pub counted : length queue + unmarked marks ≡ length marks
