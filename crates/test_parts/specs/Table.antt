-- Which tables of nodes and outputs make a part.
use Rattle.std.specs.Prelude.{◌≡◌, ℕ, ◌<◌, ◌^◌, List, All, length}
use Rattle.eq_bits.specs.declared.node.Node.{Node}
use Rattle.eq_bits.specs.declared.node.Node.TheVariants.{Const, Input, Not, And, Xor, Mux, Buf, Reg}
use Rattle.eq_bits.specs.declared.part.Output.{Output}
use Rattle.eq_bits.specs.Node.{node_at}
use Rattle.test_parts.specs.declared.table.Sides.{Sides}

-- this may be node m of n: its operands stand before it, its next value is one of the n nodes, and an input's node has
-- the input's number
abbrev pub IsRow : ℕ → ℕ → ℕ → Node → Type 0
IsRow n inputs m (Const b) = Unit {0}
IsRow n inputs m (Input i) = (i ≡ m) × (i < inputs)
IsRow n inputs m (Not a) = a < m
IsRow n inputs m (And a b) = (a < m) × (b < m)
IsRow n inputs m (Xor a b) = (a < m) × (b < m)
IsRow n inputs m (Mux s a b) = (s < m) × (a < m) × (b < m)
IsRow n inputs m (Buf a) = a < m
IsRow n inputs m (Reg next init) = next < n

abbrev pub AreRows : ℕ → List Node → Type 0
AreRows inputs nodes = (m : ℕ) → m < length nodes → IsRow (length nodes) inputs m (node_at nodes m)

-- both nodes of an output are among n
abbrev pub IsSides : ℕ → Sides → Type 0
IsSides n sides = (sides.gold < n) × (sides.gate < n)

pub record IsTable (inputs : ℕ) (nodes : List Node) (outputs : List Sides) : Type 0 where
  pub few_nodes : length nodes < 2 ^ 32
  pub few_outputs : length outputs < 2 ^ 32
  pub rows : AreRows inputs nodes
  pub sides : All (IsSides (length nodes)) outputs

-- the two nodes of an output
abbrev pub sides_of : Output → Sides
sides_of output = record { gold = output.gold; gate = output.gate }
