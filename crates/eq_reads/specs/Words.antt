-- The nodes of words: one for each of their bits, which leads to what the bit reads. The nodes are numbers: first those of the
-- caller, behind them one that leads to nothing, and behind this the inner ones.
use Rattle.std.specs.Prelude.{◌≡◌, ℕ, ◌+◌, ◌<◌, ◌≤◌, ◌↔◌, List, [], Contains, length, slice_index_or}
use Rattle.eq_net.specs.declared.types.NetInfo.{NetInfo}
use Rattle.eq_net.specs.declared.types.WordBit.{WordBit}
use Rattle.eq_net.specs.Meaning.{reads_of, table, width}
use Rattle.eq_net.specs.Net.{bits_of, number_of, offset, word_at}
use Rattle.eq_net.specs.Tree.{Tree}
use Rattle.eq_reads.specs.declared.graph.Nodes.{Nodes}
use Rattle.eq_reads.specs.Graph.{Joins, Leads}

abbrev pub number_at : List ℕ → ℕ → ℕ
number_at ns k = slice_index_or ns k 0

-- the list says where each net's bits begin
pub record BeginAt (nets : List NetInfo) (starts : List ℕ) : Type 0 where
  pub count : length starts ≡ length nets
  pub each : (k : ℕ) → k < length nets → number_at starts k ≡ offset nets k

-- ---- nodes

abbrev pub LeadsTo : Nodes → ℕ → ℕ → Type 0
LeadsTo s x c = Leads s.edges.items s.none x c

-- the edges begin at inner nodes, and end at smaller ones
pub record AreNodes (s : Nodes) : Type 0 where
  pub room : s.none < s.next
  pub inner : (a b : ℕ) → Joins s.edges.items a b → s.none < a
  pub starts : (a b : ℕ) → Joins s.edges.items a b → a < s.next
  pub down : (a b : ℕ) → Joins s.edges.items a b → b < a

-- the row has numbers of nodes
abbrev pub AreThere : Nodes → List ℕ → Type 0
AreThere s row = (p : ℕ) → p < length row → number_at row p < s.next

-- ---- what bits of words read, each from what those of the first k words read

abbrev pub reads_before : List NetInfo → List Tree → ℕ → ℕ → ℕ → List ℕ
reads_before nets words k = table [] (reads_of (number_of nets)) words k

abbrev pub reads_at : List NetInfo → List Tree → ℕ → ℕ → List ℕ
reads_at nets words w j = reads_of (number_of nets) (reads_before nets words w) (word_at words w) j

-- ---- the nodes of words, where the row has those of all words, and the list of places says where those of each begin

-- the node of a bit of a word
abbrev pub picked_node : List ℕ → List ℕ → WordBit → ℕ
picked_node places row b = number_at row (number_at places b.word + b.bit)

-- the bit's node is there
abbrev pub IsPlaced : List ℕ → List ℕ → WordBit → Type 0
IsPlaced places row b = (b.word < length places) × (number_at places b.word + b.bit < length row)

-- the bit's node leads to what the bit reads
pub record IsTold (nets : List NetInfo) (words : List Tree) (places : List ℕ) (s : Nodes) (row : List ℕ) (w j : ℕ) : Type 0 where
  pub there : number_at places w + j < length row
  pub leads : (c : ℕ) → LeadsTo s (number_at row (number_at places w + j)) c ↔ Contains (reads_at nets words w j) c

-- the row has the nodes of the first words
pub record IsReady (nets : List NetInfo) (words : List Tree) (places : List ℕ) (s : Nodes) (row : List ℕ) : Type 0 where
  pub are : AreNodes s
  pub there : AreThere s row
  pub low : bits_of nets ≤ s.none
  pub told : (w j : ℕ) → w < length places → j < width (word_at words w) → IsTold nets words places s row w j
