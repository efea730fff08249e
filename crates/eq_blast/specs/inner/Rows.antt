-- Cited by private contracts alone; nothing here has to be believed.
-- The nodes of all words' bits.
use Rattle.std.specs.Prelude.{◌≡◌, ℕ, ◌<◌, List, [], Bool, false, true, length, slice_index_or}
use Rattle.eq_model.specs.System.{Values}
use Rattle.eq_bits.specs.declared.node.Node.{Node}
use Rattle.eq_net.specs.declared.types.NetInfo.{NetInfo}
use Rattle.eq_net.specs.declared.types.Driver.{Driver}
use Rattle.eq_net.specs.declared.types.Driver.TheVariants.{Input, Undriven, Expr, Reg}
use Rattle.eq_net.specs.Meaning.{width, bit_of, table}
use Rattle.eq_net.specs.Net.{number_of, word_at}
use Rattle.eq_net.specs.Tree.{Tree}
use Rattle.eq_blast.specs.inner.Growing.{Gives}
use Rattle.eq_blast.specs.inner.Needs.{has_of}
use Rattle.eq_blast.specs.inner.Wiring.{node_of}
use Rattle.eq_blast.specs.inner.Words.{row}

-- what the first n words' bits are, and what they ask for, in the values of nodes
abbrev pub values_in : List NetInfo → List Tree → ℕ → Values → ℕ → ℕ → Bool
values_in nets words n x = table false (bit_of (λ b. x (node_of b)) (number_of nets)) words n

abbrev pub asked_in : List NetInfo → List Tree → ℕ → Values → ℕ → ℕ → Bool
asked_in nets words n d = table true (has_of (λ b. d (node_of b)) (number_of nets)) words n

-- the rows have the nodes of the first n words
pub record HasRows (nets : List NetInfo) (words : List Tree) (n : ℕ) (nodes : List Node) (rows : List (List ℕ)) : Type 0 where
  pub count : length rows ≡ n
  pub sizes : (w : ℕ) → w < n → length (slice_index_or rows w []) ≡ width (word_at words w)
  pub each : (w j : ℕ) → w < n → j < width (word_at words w) →
      Gives nodes (row rows w j) (λ x. values_in nets words n x w j) (λ d. asked_in nets words n d w j)

-- the node of what a driver names, and the constant 0 where there is no word
abbrev pub drive_node : List (List ℕ) → Driver → ℕ
drive_node rows Input = 0
drive_node rows Undriven = 0
drive_node rows (Expr w j) = row rows w j
drive_node rows (Reg init w j) = row rows w j
