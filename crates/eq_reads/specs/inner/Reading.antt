-- Cited by proofs alone; nothing here has to be believed.
-- What bits of words read, and the nodes of words.
use Rattle.std.specs.Prelude.{ℕ, ◌<◌, ◌≤◌, List, Contains, length, slice_index_or}
use Rattle.eq_names.specs.declared.BitName.{BitName}
use Rattle.eq_net.specs.declared.types.NetInfo.{NetInfo}
use Rattle.eq_net.specs.declared.types.WordBit.{WordBit}
use Rattle.eq_net.specs.Operators.{Reads}
use Rattle.eq_net.specs.Meaning.{reads_of, width}
use Rattle.eq_net.specs.Net.{number_of}
use Rattle.eq_net.specs.Tree.{Tree}
use Rattle.eq_reads.specs.declared.graph.Nodes.{Nodes}
use Rattle.eq_reads.specs.Words.{picked_node, reads_before}
use Rattle.eq_reads.specs.inner.Leading.{RowGrew}

-- one of the positions from low up to high reads b
pub record ReadIn (r : Reads) (low high b : ℕ) : Type 0 where
  pub position : ℕ
  pub from_low : low ≤ position
  pub to_high : position < high
  pub reads : Contains (r position) b

-- the node of a named bit
abbrev pub no_name : BitName
no_name = record { net = 0; bit = 0 }

abbrev pub named_at : List NetInfo → List BitName → ℕ → ℕ
named_at nets names j = number_of nets (slice_index_or names j no_name)

-- the node of a bit of an earlier word
abbrev pub no_bit : WordBit
no_bit = record { word = 0; bit = 0 }

abbrev pub picked_at : List ℕ → List ℕ → List WordBit → ℕ → ℕ
picked_at places row bits j = picked_node places row (slice_index_or bits j no_bit)

-- what position j of a tree reads, as the next word
abbrev pub TreeReads : List NetInfo → List Tree → ℕ → Tree → ℕ → ℕ → Type 0
TreeReads nets words k t j c = Contains (reads_of (number_of nets) (reads_before nets words k) t j) c

-- the nodes of a tree were put behind those of the words before it
abbrev pub WordGrew : List NetInfo → List Tree → List ℕ → Nodes → List ℕ → Nodes → List ℕ → Tree → Type 0
WordGrew nets words places s row now after t = RowGrew s row now after (length row) (width t) (TreeReads nets words (length places) t)
