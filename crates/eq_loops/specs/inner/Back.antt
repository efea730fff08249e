-- Cited by proofs alone; nothing here has to be believed.
-- Nodes from which edges lead back to a bit, and the round of bits that they make.
use Rattle.std.specs.Prelude.{◌≡◌, ◌≢◌, ℕ, zero, suc, ◌<◌, List, [], ◌∷◌, All, AllPairs, length, slice_index}
use Rattle.eq_model.specs.System.{System, Reads, IsChain}
use Rattle.eq_reads.specs.declared.graph.Edge.{Edge}
use Rattle.eq_reads.specs.Graph.{Joins, Leads, LeadsOver, from_at, to_at}

-- n edges lead from a to b
abbrev pub Passes : List Edge → ℕ → ℕ → ℕ → Type 0
Passes edges zero a b = a ≡ b
Passes edges (suc n) a b = (c : ℕ) × Joins edges a c × Passes edges n c b

-- no edges lead from the node to itself
abbrev pub IsClear : List Edge → ℕ → Type 0
IsClear edges b = (n : ℕ) → Passes edges (suc n) b b → ⊥

-- no node of a smaller number is on a cycle of edges
abbrev pub AreClear : List Edge → ℕ → Type 0
AreClear edges n = (b : ℕ) → b < n → IsClear edges b

-- ---- nodes from which edges lead back

-- how many have no rank
abbrev pub unranked : List ℕ → ℕ
unranked [] = 0
unranked (zero ∷ ranks) = suc (unranked ranks)
unranked (suc r ∷ ranks) = unranked ranks

-- edge e of node v leads to a node of a smaller rank
pub record IsStepBack (edges : List Edge) (ranks : List ℕ) (v e : ℕ) : Type 0 where
  pub there : e < length edges
  pub starts : from_at edges e ≡ v
  pub ranked : 0 < slice_index ranks (to_at edges e)
  pub falls : slice_index ranks (to_at edges e) < slice_index ranks v

-- Nodes of a rank above 1 have an edge to a node of a smaller rank, and only b has the rank 1. Rank 0 is none
pub record LeadBack (edges : List Edge) (b : ℕ) (ranks vias : List ℕ) : Type 0 where
  pub begins : slice_index ranks b ≡ 1
  pub only : (v : ℕ) → slice_index ranks v ≡ 1 → v ≡ b
  pub step : (v : ℕ) → 1 < slice_index ranks v → IsStepBack edges ranks v (slice_index vias v)

-- where an edge leads to a node with a rank it begins at one
abbrev pub IsClosedAt : List Edge → List ℕ → ℕ → Type 0
IsClosedAt edges ranks e = 0 < slice_index ranks (to_at edges e) → 0 < slice_index ranks (from_at edges e)

-- the first k edges are such
abbrev pub AreClosed : List Edge → List ℕ → ℕ → Type 0
AreClosed edges ranks k = (e : ℕ) → e < k → IsClosedAt edges ranks e

-- no edge of b leads to a node with a rank
abbrev pub HasNoEntry : List Edge → List ℕ → ℕ → Type 0
HasNoEntry edges ranks b = (e : ℕ) → e < length edges → from_at edges e ≡ b → slice_index ranks (to_at edges e) ≡ 0

-- ---- the round

-- edges lead from a bit through inner nodes only to bits that it reads
abbrev pub IsSoundFor : System → List Edge → ℕ → Type 0
IsSoundFor s edges outer = (a c : ℕ) → a < outer → LeadsOver edges outer a c → Reads s a c

-- distinct bits from b on, each reading the next and the last reading b
abbrev pub IsRound : System → ℕ → ℕ → List ℕ → Type 0
IsRound s outer b [] = ⊥
IsRound s outer b (c ∷ cs) = (c ≡ b) × All (λ d. d < outer) (c ∷ cs) × AllPairs (λ d e. d ≢ e) (c ∷ cs) × IsChain s b cs b

-- b, and behind it bits that chains lead over to what node x leads to
pub record IsTraced (s : System) (edges : List Edge) (outer b : ℕ) (ranks : List ℕ) (x : ℕ) (bits : List ℕ) : Type 0 where
  pub rest : List ℕ
  pub is : bits ≡ b ∷ rest
  pub leads : (d : ℕ) → Leads edges outer x d → IsChain s b rest d
  pub bound : All (λ c. c < outer) rest
  pub above : All (λ c. slice_index ranks x < slice_index ranks c) rest
  pub apart : AllPairs (λ c d. c ≢ d) rest

-- a round from the first node that is on a cycle of edges
pub record IsFirstRound (edges : List Edge) (outer : ℕ) (bits : List ℕ) : Type 0 where
  pub first : ℕ
  pub bound : first < outer
  pub clear : AreClear edges first
  pub round : (s : System) → IsSoundFor s edges outer → IsRound s outer first bits
