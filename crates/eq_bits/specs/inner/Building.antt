-- Cited by proofs alone; nothing here has to be believed.
use Rattle.std.specs.Prelude.{◌≡◌, ℕ, ◌<◌, ◌^◌, List, Bool, true, length, Some}
use Rattle.std.specs.declared.hash.FoldHasher.{FoldHasher}
use Rattle.std.specs.declared.hash.BuildHasherDefault.{BuildHasherDefault}
use Rattle.std.specs.HashMap.{HashMap, get}
use Rattle.eq_bits.specs.declared.node.Node.{Node}
use Rattle.eq_bits.specs.contracts.node.NodePartialEq.TheImpl as the_impl
use Rattle.eq_bits.specs.Node.{AreNodes, node_at}
use Rattle.eq_bits.specs.Shared.{HasSmallerFirst, is_gate}

-- what `==` answers on two nodes
abbrev pub equal : Node → Node → Bool
equal = the_impl.eq-value.it

-- from nodes to their numbers
abbrev pub Numbers : Type 0
Numbers = HashMap Node ℕ (BuildHasherDefault FoldHasher)

-- the table has the number of each gate in the list, and nothing else
pub record IsTable (nodes : List Node) (numbers : Numbers) : Type 0 where
  pub known : (m : ℕ) → m < length nodes → is_gate (node_at nodes m) ≡ true →
      get equal numbers (node_at nodes m) ≡ Some m
  pub there : (node : Node) (m : ℕ) → get equal numbers node ≡ Some m → m < length nodes
  pub named : (node : Node) (m : ℕ) → get equal numbers node ≡ Some m → node_at nodes m ≡ node
  pub gates : (node : Node) (m : ℕ) → get equal numbers node ≡ Some m → is_gate node ≡ true

-- what a builder keeps
pub record IsBuilt (nodes : List Node) (numbers : Numbers) : Type 0 where
  pub few : length nodes < 2 ^ 32
  pub operands : AreNodes nodes
  pub smaller_first : (m : ℕ) → m < length nodes → HasSmallerFirst (node_at nodes m)
  pub table : IsTable nodes numbers
