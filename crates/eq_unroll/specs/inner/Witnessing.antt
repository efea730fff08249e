-- Cited by proofs alone; nothing here has to be believed.
use Rattle.std.specs.Prelude.{◌≡◌, ℕ, ◌+◌, ◌*◌, ◌<◌, List, [], All, Bool, true, length, slice_index_or, slice_set}
use Rattle.eq_model.specs.Frames.{values}
use Rattle.eq_model.specs.System.{Values, IsInput}
use Rattle.eq_bits.specs.declared.node.Node.{Node}
use Rattle.eq_bits.specs.declared.node.Node.TheVariants.{Const, Input, Not, And, Xor, Mux, Buf, Reg}
use Rattle.eq_bits.specs.declared.part.Part.{Part}
use Rattle.eq_bits.specs.Cycle.{place}
use Rattle.eq_bits.specs.Node.{driver_of, input_of, is_register, node_at}

-- of the first nodes, each register's value stands at its place
pub record HasRegisters (nodes : List Node) (given : Values) (count : ℕ)
    (regs : List Bool) : Type 0 where
  pub size : length regs ≡ place nodes count
  pub each : (m : ℕ) → m < count → is_register (node_at nodes m) ≡ true →
      (place nodes m < length regs) × (values regs (place nodes m) ≡ given m)

-- of the first nodes, each Input's value stands at its input
abbrev pub HasInputs : List Node → Values → ℕ → List Bool → Type 0
HasInputs nodes given count bits = (m : ℕ) → m < count → IsInput (driver_of (node_at nodes m)) →
    values bits (input_of (node_at nodes m)) ≡ given m

-- values of the inputs, where the input that a node stands for has this value
abbrev pub with_input : Node → Bool → List Bool → List Bool
with_input (Const b) given bits = bits
with_input (Input i) given bits = slice_set bits i given
with_input (Not a) given bits = bits
with_input (And a b) given bits = bits
with_input (Xor a b) given bits = bits
with_input (Mux s a b) given bits = bits
with_input (Buf a) given bits = bits
with_input (Reg next init) given bits = bits

-- no two Input nodes stand for one input
abbrev pub HasOneNode : List Node → Type 0
HasOneNode nodes = (a b i : ℕ) → a < length nodes → b < length nodes → node_at nodes a ≡ Input i →
    node_at nodes b ≡ Input i → a ≡ b

-- for each of the first frames the inputs' values, from the nodes' values in all frames
pub record HasFrames (part : Part) (bits : List Bool) (count : ℕ)
    (inputs : List (List Bool)) : Type 0 where
  pub cycles : length inputs ≡ count
  pub sizes : All (λ frame. length frame ≡ length part.inputs) inputs
  pub each : (c : ℕ) → c < count → HasInputs part.nodes
      (λ m. values bits (c * length part.nodes + m)) (length part.nodes)
      (slice_index_or inputs c [])
