-- Cited by private contracts alone; nothing here has to be believed.
-- A graph in which each bit of a net is an input: node 0 is 0, node 1 is 1, node 2 + b stands for bit b, and every
-- other node is a gate. For each bit one of its nodes has the value that the bit's driver gives.
use Rattle.std.specs.Prelude.{◌≡◌, ℕ, ◌+◌, ◌<◌, ◌≤◌, List, Bool, true, false, Contains, slice_index_or, length}
use Rattle.eq_model.specs.System.{Values, Driver as Source, input, undriven, equation, register, Meets, reads_ever}
use Rattle.eq_bits.specs.declared.node.Node.{Node}
use Rattle.eq_bits.specs.declared.node.Node.TheVariants.{Const, Input, Not, And, Xor, Mux, Buf, Reg}
use Rattle.eq_bits.specs.Node.{AreNodes, driver_of, node_at}
use Rattle.eq_bits.specs.Shared.{is_gate}
use Rattle.eq_net.specs.Net.{Parts, bits_of, driver_at, least_cost, source_of}

-- the node that stands for bit b
abbrev pub node_of : ℕ → ℕ
node_of b = 2 + b

-- each gate has the value that it computes
abbrev pub Computes : List Node → Values → Type 0
Computes nodes x = (m : ℕ) → m < length nodes → is_gate (node_at nodes m) ≡ true →
    Meets (driver_of (node_at nodes m)) x (x m)

-- all operands of the node are in the set
abbrev pub HasOperands : (ℕ → Bool) → Node → Type 0
HasOperands d (Const b) = Unit {0}
HasOperands d (Input i) = Unit {0}
HasOperands d (Not a) = d a ≡ true
HasOperands d (And a b) = (d a ≡ true) × (d b ≡ true)
HasOperands d (Xor a b) = (d a ≡ true) × (d b ≡ true)
HasOperands d (Mux s a b) = (d s ≡ true) × (d a ≡ true) × (d b ≡ true)
HasOperands d (Buf a) = d a ≡ true
HasOperands d (Reg next init) = d next ≡ true

-- a set of nodes that has each gate whose operands it has
abbrev pub IsClosed : List Node → (ℕ → Bool) → Type 0
IsClosed nodes d = (m : ℕ) → m < length nodes → is_gate (node_at nodes m) ≡ true →
    HasOperands d (node_at nodes m) → d m ≡ true

-- the set has the nodes of all these bits
abbrev pub HasBits : (ℕ → Bool) → List ℕ → Type 0
HasBits d bs = (b : ℕ) → Contains bs b → d (node_of b) ≡ true

-- the graph begins with the two constants and the n bits, and all behind them are gates
pub record IsOpen (n : ℕ) (nodes : List Node) : Type 0 where
  pub room : 2 + n ≤ length nodes
  pub zero_node : node_at nodes 0 ≡ Const false
  pub one_node : node_at nodes 1 ≡ Const true
  pub bits : (b : ℕ) → b < n → node_at nodes (node_of b) ≡ Input b
  pub gates : (m : ℕ) → 2 + n ≤ m → m < length nodes → is_gate (node_at nodes m) ≡ true
  pub operands : AreNodes nodes

-- x is the value that the driver gives, where the bits have the values v
abbrev pub IsGiven : Source → Values → Bool → Type 0
IsGiven input v x = Unit {0}
IsGiven undriven v x = x ≡ false
IsGiven (equation e) v x = x ≡ e.value v
IsGiven (register init e) v x = x ≡ e.value v

-- the node that gives bit b its value or its next value
abbrev pub drive_of : List ℕ → ℕ → ℕ
drive_of drives b = slice_index_or drives b 0

abbrev pub source_at : Parts → ℕ → Source
source_at net b = source_of net.nets net.words (driver_at net b)

-- a graph over the net's bits, with a node for what drives each of them
pub record IsWired (net : Parts) (nodes : List Node) (drives : List ℕ) : Type 0 where
  pub open_graph : IsOpen (bits_of net.nets) nodes
  pub bound : length nodes ≤ least_cost net
  pub count : length drives ≡ bits_of net.nets
  pub there : (b : ℕ) → b < bits_of net.nets → drive_of drives b < length nodes
  -- whatever values the bits have, the node has what the driver gives
  pub value : (b : ℕ) → b < bits_of net.nets → (x : Values) → Computes nodes x →
      IsGiven (source_at net b) (λ c. x (node_of c)) (x (drive_of drives b))
  -- the node reads no more bits than the driver does
  pub reads : (b : ℕ) → b < bits_of net.nets → (d : ℕ → Bool) → IsClosed nodes d →
      HasBits d (reads_ever (source_at net b)) → d (drive_of drives b) ≡ true
