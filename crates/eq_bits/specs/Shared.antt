-- Lists of nodes in which no gate stands twice, as structural hashing makes them (A. Kuehlmann, V. Paruthi, F. Krohm,
-- M. K. Ganai, "Robust Boolean Reasoning for Equivalence Checking and Functional Property Verification", 2002).
use Rattle.std.specs.Prelude.{◌≡◌, ℕ, ◌<◌, ◌≤◌, List, ◌++◌, Bool, true, false, Contains, length, min, max}
use Rattle.eq_bits.specs.declared.node.Node.{Node}
use Rattle.eq_bits.specs.declared.node.Node.TheVariants.{Const, Input, Not, And, Xor, Mux, Buf, Reg}
use Rattle.eq_bits.specs.Node.{node_at}

-- one node may stand for all that are equal to it. A constant is a gate without operands
abbrev pub is_gate : Node → Bool
is_gate (Const b) = true
is_gate (Input i) = false
is_gate (Not a) = true
is_gate (And a b) = true
is_gate (Xor a b) = true
is_gate (Mux s a b) = true
is_gate (Buf a) = false
is_gate (Reg next init) = false

-- the same node with the smaller operand first, where the order doesn't matter
abbrev pub normal_form : Node → Node
normal_form (Const b) = Const b
normal_form (Input i) = Input i
normal_form (Not a) = Not a
normal_form (And a b) = And (min a b) (max a b)
normal_form (Xor a b) = Xor (min a b) (max a b)
normal_form (Mux s a b) = Mux s a b
normal_form (Buf a) = Buf a
normal_form (Reg next init) = Reg next init

-- And and Xor have the smaller operand first
abbrev pub HasSmallerFirst : Node → Type 0
HasSmallerFirst (Const b) = Unit {0}
HasSmallerFirst (Input i) = Unit {0}
HasSmallerFirst (Not a) = Unit {0}
HasSmallerFirst (And a b) = a ≤ b
HasSmallerFirst (Xor a b) = a ≤ b
HasSmallerFirst (Mux s a b) = Unit {0}
HasSmallerFirst (Buf a) = Unit {0}
HasSmallerFirst (Reg next init) = Unit {0}

pub record Shared (nodes : List Node) : Type 0 where
  -- no two gates are equal
  pub apart : (a b : ℕ) → a < length nodes → b < length nodes → is_gate (node_at nodes a) ≡ true →
      node_at nodes a ≡ node_at nodes b → a ≡ b
  pub smaller_first : (m : ℕ) → m < length nodes → HasSmallerFirst (node_at nodes m)

-- a node that is equal to this one may stand for it, and is in the list
abbrev pub IsKnown : List Node → Node → Type 0
IsKnown nodes node = (is_gate node ≡ true) × Contains nodes (normal_form node)

-- all old nodes stand at the front of the new ones
abbrev pub Extends : List Node → List Node → Type 0
Extends old new = (more : List Node) × (new ≡ old ++ more)

-- the register with this next node, and any other node as it is
abbrev pub with_next : Node → ℕ → Node
with_next (Const b) next = Const b
with_next (Input i) next = Input i
with_next (Not a) next = Not a
with_next (And a b) next = And a b
with_next (Xor a b) next = Xor a b
with_next (Mux s a b) next = Mux s a b
with_next (Buf a) next = Buf a
with_next (Reg old init) next = Reg next init
