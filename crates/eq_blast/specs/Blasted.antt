-- What the graph of a netlist has to be: each bit has a node of its own, which follows the bit's driver.
use Rattle.std.specs.Prelude.{◌≡◌, ℕ, zero, suc, ◌+◌, ◌<◌, List, slice_index_or, length}
use Rattle.eq_model.specs.Graph.{IsGraphOf}
use Rattle.eq_bits.specs.declared.node.Node.{Node}
use Rattle.eq_bits.specs.declared.node.Node.TheVariants.{Input as InputNode, Buf as BufNode, Reg as RegNode}
use Rattle.eq_bits.specs.Node.{node_at, system_of as system_of_nodes}
use Rattle.eq_net.specs.declared.types.Driver.{Driver}
use Rattle.eq_net.specs.declared.types.Driver.TheVariants.{Input, Undriven, Expr, Reg}
use Rattle.eq_net.specs.Net.{Parts, bits_of, driver_at, system_of}

-- the own node of bit b, where the list has the numbers of the bits' nodes in order
abbrev pub own_of : List ℕ → ℕ → ℕ
own_of bits b = slice_index_or bits b 0

-- 1 for a bit of an input
abbrev pub one_if_input : Driver → ℕ
one_if_input Input = 1
one_if_input Undriven = 0
one_if_input (Expr word bit) = 0
one_if_input (Reg init word bit) = 0

-- how many bits of inputs stand before bit b
abbrev pub inputs_before : Parts → ℕ → ℕ
inputs_before n zero = 0
inputs_before n (suc b) = inputs_before n b + one_if_input (driver_at n b)

-- the node is the kind of node that a bit with this driver has, where i bits of inputs stand before the bit: an input of
-- its own, a register with the bit's initial value, and else a copy of another node
abbrev pub IsOwnNode : ℕ → Driver → Node → Type 0
IsOwnNode i Input node = node ≡ InputNode i
IsOwnNode i Undriven node = (a : ℕ) × (node ≡ BufNode a)
IsOwnNode i (Expr word bit) node = (a : ℕ) × (node ≡ BufNode a)
IsOwnNode i (Reg init word bit) node = (next : ℕ) × (node ≡ RegNode next init)

-- the nodes are the graph of the net, in which its bits have these own nodes
pub record IsBlasted (net : Parts) (nodes : List Node) (bits : List ℕ) : Type 0 where
  pub count : length bits ≡ bits_of net.nets
  pub kinds : (b : ℕ) → b < bits_of net.nets →
      IsOwnNode (inputs_before net b) (driver_at net b) (node_at nodes (own_of bits b))
  pub follows : IsGraphOf (system_of net) (system_of_nodes nodes) (own_of bits)
