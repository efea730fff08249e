-- The graph of what bits read within a cycle. Its nodes are numbers: first the bits, behind them inner nodes.
use Rattle.std.specs.Prelude.{◌≡◌, ℕ, zero, suc, ◌<◌, ◌≤◌, ◌⊎◌, ◌↔◌, List, [], None, length, slice_index_or}
use Rattle.eq_model.specs.System.{Reads}
use Rattle.eq_net.specs.declared.types.Driver.{Driver}
use Rattle.eq_net.specs.declared.types.NetInfo.{NetInfo}
use Rattle.eq_net.specs.Net.{Parts, bits_of, design_of}
use Rattle.eq_net.specs.Tree.{Tree}
use Rattle.eq_reads.specs.declared.graph.Edge.{Edge}

-- ---- edges

abbrev pub no_edge : Edge
no_edge = record { from = 0; to = 0 }

abbrev pub edge_at : List Edge → ℕ → Edge
edge_at edges e = slice_index_or edges e no_edge

abbrev pub from_at : List Edge → ℕ → ℕ
from_at edges e = (edge_at edges e).from

abbrev pub to_at : List Edge → ℕ → ℕ
to_at edges e = (edge_at edges e).to

-- an edge leads from a to b
pub record Joins (edges : List Edge) (a b : ℕ) : Type 0 where
  pub edge : ℕ
  pub there : edge < length edges
  pub starts : from_at edges edge ≡ a
  pub ends : to_at edges edge ≡ b

-- the edges are between the first n numbers
pub record AreBetween (n : ℕ) (edges : List Edge) : Type 0 where
  pub starts : (e : ℕ) → e < length edges → from_at edges e < n
  pub ends : (e : ℕ) → e < length edges → to_at edges e < n

-- edges from a node were added, to what P holds of
pub record Adds (edges after : List Edge) (from : ℕ) (P : ℕ → Type 0) : Type 0 where
  pub kept : (a b : ℕ) → Joins edges a b → Joins after a b
  pub there : (b : ℕ) → P b → Joins after from b
  pub only : (a b : ℕ) → Joins after a b → Joins edges a b ⊎ ((a ≡ from) × P b)

-- ---- what edges lead to through inner nodes, which are the numbers from `outer` up

-- n edges, each from an inner node, lead from x to c, which is no inner node
abbrev pub LeadsBy : List Edge → ℕ → ℕ → ℕ → ℕ → Type 0
LeadsBy edges outer zero x c = (x ≡ c) × (c < outer)
LeadsBy edges outer (suc n) x c = (y : ℕ) × (outer ≤ x) × Joins edges x y × LeadsBy edges outer n y c

abbrev pub Leads : List Edge → ℕ → ℕ → ℕ → Type 0
Leads edges outer x c = (n : ℕ) × LeadsBy edges outer n x c

-- an edge from a, and then edges from inner nodes alone, lead to c, which is no inner node
abbrev pub LeadsOver : List Edge → ℕ → ℕ → ℕ → Type 0
LeadsOver edges outer a c = (x : ℕ) × Joins edges a x × Leads edges outer x c

-- ---- reads

-- nets, words and drivers before ports, a clock and a cost are told
abbrev pub bare : List NetInfo → List Tree → List Driver → Parts
bare nets words drivers = record { nets = nets; words = words; drivers = drivers; ports = []; clock = None; cost = 0 }

-- the graph of what bits read within a cycle: the bits are its first nodes, and those from there up to `next` inner ones
pub record AreReads (nets : List NetInfo) (words : List Tree) (drivers : List Driver) (edges : List Edge) (next : ℕ) : Type 0 where
  -- the bits are among the nodes
  pub bits : bits_of nets ≤ next
  -- all edges are between nodes
  pub between : AreBetween next edges
  -- edges lead from a bit through inner nodes alone exactly to the bits that it reads
  pub sound : (a b : ℕ) → a < bits_of nets →
      Reads (design_of (bare nets words drivers)).system a b ↔ LeadsOver edges (bits_of nets) a b
  -- an edge from an inner node leads to a smaller number, so each cycle of edges passes a bit
  pub inner : (a b : ℕ) → bits_of nets ≤ a → Joins edges a b → b < a
