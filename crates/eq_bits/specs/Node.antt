-- What a list of nodes means: a system of equations, in which each node is a bit.
-- An And-Inverter graph with exclusive or and multiplexers (A. Biere, "The AIGER And-Inverter Graph Format", 2007), in
-- which a netlist's bits and registers have nodes of their own.
use Rattle.std.specs.Prelude.{ℕ, ◌<◌, List, [], ◌∷◌, Bool, true, false, not, ◌&&◌, if◌then◌else◌, slice_index_or, length}
use Rattle.eq_model.specs.System.{Driver, input, equation, register, System}
use Rattle.eq_bits.specs.declared.node.Node.{Node}
use Rattle.eq_bits.specs.declared.node.Node.TheVariants.{Const, Input, Not, And, Xor, Mux, Buf, Reg}

abbrev pub xor : Bool → Bool → Bool
xor true b = not b
xor false b = b

-- where a node's value comes from
abbrev pub driver_of : Node → Driver
driver_of (Const b) = equation (record { reads = []; value = λ v. b })
driver_of (Input i) = input
driver_of (Not a) = equation (record { reads = a ∷ []; value = λ v. not (v a) })
driver_of (And a b) = equation (record { reads = a ∷ b ∷ []; value = λ v. v a && v b })
driver_of (Xor a b) = equation (record { reads = a ∷ b ∷ []; value = λ v. xor (v a) (v b) })
driver_of (Mux s a b) = equation (record { reads = s ∷ a ∷ b ∷ []; value = λ v. if v s then v a else v b })
driver_of (Buf a) = equation (record { reads = a ∷ []; value = λ v. v a })
driver_of (Reg next init) = register init (record { reads = next ∷ []; value = λ v. v next })

-- the node of a number, and 0 beyond the list
abbrev pub node_at : List Node → ℕ → Node
node_at nodes m = slice_index_or nodes m (Const false)

-- each node is a bit, with the same number
abbrev pub system_of : List Node → System
system_of nodes = record { bits = length nodes; driver = λ m. driver_of (node_at nodes m) }

-- this may be the node m of n: its operands stand before it, and its next value is one of the n nodes
abbrev pub IsNode : ℕ → ℕ → Node → Type 0
IsNode n m (Const b) = Unit {0}
IsNode n m (Input i) = Unit {0}
IsNode n m (Not a) = a < m
IsNode n m (And a b) = (a < m) × (b < m)
IsNode n m (Xor a b) = (a < m) × (b < m)
IsNode n m (Mux s a b) = (s < m) × (a < m) × (b < m)
IsNode n m (Buf a) = a < m
IsNode n m (Reg next init) = next < n

-- each node of the list may be there
abbrev pub AreNodes : List Node → Type 0
AreNodes nodes = (m : ℕ) → m < length nodes → IsNode (length nodes) m (node_at nodes m)

abbrev pub is_register : Node → Bool
is_register (Const b) = false
is_register (Input i) = false
is_register (Not a) = false
is_register (And a b) = false
is_register (Xor a b) = false
is_register (Mux s a b) = false
is_register (Buf a) = false
is_register (Reg next init) = true

-- the number of the input that a node stands for, and 0 for any other node
abbrev pub input_of : Node → ℕ
input_of (Const b) = 0
input_of (Input i) = i
input_of (Not a) = 0
input_of (And a b) = 0
input_of (Xor a b) = 0
input_of (Mux s a b) = 0
input_of (Buf a) = 0
input_of (Reg next init) = 0

-- where the node stands for an input, it is one of n inputs
abbrev pub NamesInput : ℕ → Node → Type 0
NamesInput n (Const b) = Unit {0}
NamesInput n (Input i) = i < n
NamesInput n (Not a) = Unit {0}
NamesInput n (And a b) = Unit {0}
NamesInput n (Xor a b) = Unit {0}
NamesInput n (Mux s a b) = Unit {0}
NamesInput n (Buf a) = Unit {0}
NamesInput n (Reg next init) = Unit {0}

-- each node of the list that stands for an input stands for one of n
abbrev pub AllNameInputs : ℕ → List Node → Type 0
AllNameInputs n nodes = (m : ℕ) → m < length nodes → NamesInput n (node_at nodes m)
