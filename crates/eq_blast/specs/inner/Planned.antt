-- Mirrors src/plan.rt; nothing here has to be believed.
-- The plan of a graph: the wired nodes, where each bit's node is the own node that the bit is to have.
use Rattle.std.specs.Prelude.{◌≡◌, ℕ, ◌<◌, List, Option, length, map}
use Rattle.eq_bits.specs.declared.node.Node.{Node}
use Rattle.eq_bits.specs.declared.node.Node.TheVariants.{Const, Input as InputNode, Not, And, Xor, Mux, Buf as BufNode, Reg as RegNode}
use Rattle.eq_bits.specs.Node.{node_at}
use Rattle.eq_net.specs.declared.types.Driver.{Driver}
use Rattle.eq_net.specs.declared.types.Driver.TheVariants.{Input, Undriven, Expr, Reg}
use Rattle.eq_net.specs.Net.{Parts, bits_of, driver_at}
use Rattle.eq_blast.specs.Blasted.{inputs_before, own_of}
use Rattle.eq_blast.specs.inner.Sorting.{new_of}
use Rattle.eq_blast.specs.inner.Wiring.{drive_of, node_of}

-- the own node of a bit with this driver, behind i bits of inputs, where this node drives it
abbrev pub own_node : Driver → ℕ → ℕ → Node
own_node Input i drive = InputNode i
own_node Undriven i drive = BufNode drive
own_node (Expr word bit) i drive = BufNode drive
own_node (Reg init word bit) i drive = RegNode drive init

abbrev pub own_node_of : Parts → List ℕ → ℕ → Node
own_node_of net drives b = own_node (driver_at net b) (inputs_before net b) (drive_of drives b)

-- the own nodes of the first n bits in order
pub record AreOwn (net : Parts) (drives : List ℕ) (n : ℕ) (own : List Node) : Type 0 where
  pub count : length own ≡ n
  pub each : (b : ℕ) → b < n → node_at own b ≡ own_node_of net drives b

-- the own node in place of a bit's node, and any other node as it is
abbrev pub planned : List Node → Node → Node
planned own (Const b) = Const b
planned own (InputNode b) = node_at own b
planned own (Not a) = Not a
planned own (And a b) = And a b
planned own (Xor a b) = Xor a b
planned own (Mux s a b) = Mux s a b
planned own (BufNode a) = BufNode a
planned own (RegNode next init) = RegNode next init

-- the plan of the wired nodes of a net
abbrev pub IsPlan : Parts → List Node → List ℕ → List Node → Type 0
IsPlan net nodes drives plan = (own : List Node) × AreOwn net drives (bits_of net.nets) own ×
    (plan ≡ map (planned own) nodes)

-- the numbers of the own nodes of n bits, from the places of the plan's nodes
pub record AreOwnNumbers (places : List (Option ℕ)) (n : ℕ) (bits : List ℕ) : Type 0 where
  pub count : length bits ≡ n
  pub each : (b : ℕ) → b < n → own_of bits b ≡ new_of places (node_of b)
