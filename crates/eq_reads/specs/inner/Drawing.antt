-- Cited by proofs alone; nothing here has to be believed.
-- Edges from bits to the nodes of what drives them.
use Rattle.std.specs.Prelude.{◌≡◌, ℕ, ◌<◌, ◌⊎◌, List, slice_index_or}
use Rattle.eq_net.specs.declared.types.Driver.{Driver}
use Rattle.eq_net.specs.declared.types.Driver.TheVariants.{Input, Undriven, Expr as WordOf, Reg}
use Rattle.eq_reads.specs.declared.graph.Edge.{Edge}
use Rattle.eq_reads.specs.Graph.{Joins}
use Rattle.eq_reads.specs.Words.{IsPlaced, picked_node}

-- edges were added, those of which P holds
pub record Gains (edges after : List Edge) (P : ℕ → ℕ → Type 0) : Type 0 where
  pub kept : (a b : ℕ) → Joins edges a b → Joins after a b
  pub there : (a b : ℕ) → P a b → Joins after a b
  pub only : (a b : ℕ) → Joins after a b → Joins edges a b ⊎ P a b

-- the node of the driver's bit of a word is there
abbrev pub IsPlacedDriver : List ℕ → List ℕ → Driver → Type 0
IsPlacedDriver places row Input = Unit {0}
IsPlacedDriver places row Undriven = Unit {0}
IsPlacedDriver places row (WordOf w j) = IsPlaced places row (record { word = w; bit = j })
IsPlacedDriver places row (Reg init w j) = IsPlaced places row (record { word = w; bit = j })

-- the bit of a word that drives within a cycle has this node
abbrev pub IsNowBit : List ℕ → List ℕ → Driver → ℕ → Type 0
IsNowBit places row Input x = ⊥
IsNowBit places row Undriven x = ⊥
IsNowBit places row (WordOf w j) x = x ≡ picked_node places row (record { word = w; bit = j })
IsNowBit places row (Reg init w j) x = ⊥

-- the first k bits lead to what drives them within a cycle
pub record NowDrawn (drivers : List Driver) (places row : List ℕ) (k a b : ℕ) : Type 0 where
  pub before : a < k
  pub driven : IsNowBit places row (slice_index_or drivers a Undriven) b
