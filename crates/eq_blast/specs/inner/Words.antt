-- Cited by private contracts alone; nothing here has to be believed.
-- What is asked of a word that becomes gates, and what stands for the bits of the words before it.
use Rattle.std.specs.Prelude.{◌≡◌, ℕ, ◌+◌, ◌<◌, ◌≤◌, List, [], All, false, length, slice_index_or}
use Rattle.eq_model.specs.System.{Values}
use Rattle.eq_bits.specs.declared.node.Node.{Node}
use Rattle.eq_net.specs.declared.types.NetInfo.{NetInfo}
use Rattle.eq_net.specs.Operators.{has_free_sizes}
use Rattle.eq_net.specs.Tree.{Tree, const, read, pick, negated, opposite, binary, reduced, choice, empty, joined, extended}
use Rattle.eq_net.specs.Meaning.{width, bit_of, cost_of}
use Rattle.eq_net.specs.Net.{HasBit, bits_of, number_of, offset}
use Rattle.eq_net.specs.Numbers.{Digits}
use Rattle.eq_blast.specs.inner.Growing.{HasConstants}
use Rattle.eq_blast.specs.inner.Needs.{has_of}
use Rattle.eq_blast.specs.inner.Stack.{AreThere, Performs}
use Rattle.eq_blast.specs.inner.Wiring.{node_of}

-- what the word reads is there, and the sizes of its operands agree
abbrev pub Fits : List NetInfo → Tree → Type 0
Fits nets (const bits) = Unit {0}
Fits nets (read names) = All (HasBit nets) names
Fits nets (pick bits) = Unit {0}
Fits nets (negated a) = Fits nets a
Fits nets (opposite a) = Fits nets a
Fits nets (binary o a b) = Fits nets a × Fits nets b × (has_free_sizes o ≡ false → width a ≡ width b)
Fits nets (reduced o a) = Fits nets a
Fits nets (choice c a b) = Fits nets c × Fits nets a × Fits nets b × (width a ≡ width b)
Fits nets empty = Unit {0}
Fits nets (joined a b) = Fits nets a × Fits nets b
Fits nets (extended a n) = Fits nets a × (width a ≤ n)

-- the list says where each net's bits begin
pub record BeginAt (nets : List NetInfo) (starts : List ℕ) : Type 0 where
  pub count : length starts ≡ length nets
  pub each : (k : ℕ) → k < length nets → slice_index_or starts k 0 ≡ offset nets k

-- the node of a bit of an earlier word
abbrev pub row : List (List ℕ) → ℕ → ℕ → ℕ
row earlier w j = slice_index_or (slice_index_or earlier w []) j 0

-- all nodes of the rows are there
abbrev pub RowsThere : List Node → List (List ℕ) → Type 0
RowsThere nodes earlier = (w : ℕ) → w < length earlier → AreThere nodes (slice_index_or earlier w [])

-- what the word's bits are, and what they ask for, in the values of nodes
abbrev pub bits_in : List NetInfo → List (List ℕ) → Tree → Values → Digits
bits_in nets earlier t x = bit_of (λ b. x (node_of b)) (number_of nets) (λ w j. x (row earlier w j)) t

abbrev pub asks_in : List NetInfo → List (List ℕ) → Tree → Values → Digits
asks_in nets earlier t d = has_of (λ b. d (node_of b)) (number_of nets) (λ w j. d (row earlier w j)) t

-- gates were added for a word, and its nodes stand on top
abbrev pub Puts : List NetInfo → List (List ℕ) → Tree → List Node → List Node → List ℕ → List ℕ → Type 0
Puts nets earlier t b0 b1 s0 s1 = Performs (cost_of t) (width t) (length s0) (bits_in nets earlier t) (asks_in nets earlier t) b0 b1 s0 s1

-- what a word finds: constants, nodes for all bits, and nodes on the stack and in the rows that are there
pub record Ready (nets : List NetInfo) (earlier : List (List ℕ)) (nodes : List Node) (stack : List ℕ) : Type 0 where
  pub constants : HasConstants nodes
  pub bits : 2 + bits_of nets ≤ length nodes
  pub rows : RowsThere nodes earlier
  pub there : AreThere nodes stack
