-- Cited by proofs alone; nothing here has to be believed.
-- Nodes that are added, and rows of them.
use Rattle.std.specs.Prelude.{◌≡◌, ℕ, suc, ◌+◌, ◌<◌, ◌≤◌, ◌⊎◌, ◌↔◌, List, length}
use Rattle.eq_reads.specs.declared.graph.Nodes.{Nodes}
use Rattle.eq_reads.specs.Graph.{Joins}
use Rattle.eq_reads.specs.Words.{AreNodes, AreThere, LeadsTo, number_at}

-- nodes were added, and edges from these alone
pub record NodesGrew (s now : Nodes) : Type 0 where
  pub none : now.none ≡ s.none
  pub later : s.next ≤ now.next
  pub kept : (a b : ℕ) → Joins s.edges.items a b → Joins now.edges.items a b
  pub only : (a b : ℕ) → Joins now.edges.items a b → Joins s.edges.items a b ⊎ (s.next ≤ a)
  pub are : AreNodes now

-- the node leads to what x and y led to
pub record LeadsToBoth (s now : Nodes) (x y node : ℕ) : Type 0 where
  pub there : node < now.next
  pub leads : (c : ℕ) → LeadsTo now node c ↔ (LeadsTo s x c ⊎ LeadsTo s y c)

-- ---- rows

-- numbers were put behind those of the row
pub record Appended (row after : List ℕ) (count : ℕ) (f : ℕ → ℕ) : Type 0 where
  pub size : length after ≡ length row + count
  pub kept : (p : ℕ) → p < length row → number_at after p ≡ number_at row p
  pub added : (j : ℕ) → j < count → number_at after (length row + j) ≡ f j

-- a node at one of the places from low up to high leads to c
pub record SomeLeads (s : Nodes) (row : List ℕ) (low high c : ℕ) : Type 0 where
  pub place : ℕ
  pub from_low : low ≤ place
  pub to_high : place < high
  pub leads : LeadsTo s (number_at row place) c

-- behind its first places the row has others, and the nodes there lead to what P says
pub record RowGrew (s : Nodes) (row : List ℕ) (now : Nodes) (after : List ℕ) (from count : ℕ)
    (P : ℕ → ℕ → Type 0) : Type 0 where
  pub nodes : NodesGrew s now
  pub size : length after ≡ from + count
  pub kept : (p : ℕ) → p < from → number_at after p ≡ number_at row p
  pub there : AreThere now after
  pub leads : (j : ℕ) → j < count → (c : ℕ) → LeadsTo now (number_at after (from + j)) c ↔ P j c

-- what place j leads to after each of these
abbrev pub UpLeads : Nodes → List ℕ → ℕ → ℕ → ℕ → ℕ → Type 0
UpLeads s row from start j c = LeadsTo s start c ⊎ SomeLeads s row from (from + suc j) c

abbrev pub DownLeads : Nodes → List ℕ → ℕ → ℕ → ℕ → ℕ → Type 0
DownLeads s row from start j c = LeadsTo s start c ⊎ SomeLeads s row (from + j) (length row) c

abbrev pub PairLeads : Nodes → List ℕ → ℕ → ℕ → ℕ → ℕ → Type 0
PairLeads s row left right j c = LeadsTo s (number_at row (left + j)) c ⊎ LeadsTo s (number_at row (right + j)) c

abbrev pub EachLeads : Nodes → List ℕ → ℕ → ℕ → ℕ → ℕ → Type 0
EachLeads s row from other j c = LeadsTo s (number_at row (from + j)) c ⊎ LeadsTo s other c
