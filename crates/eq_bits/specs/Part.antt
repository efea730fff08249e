-- Which inputs, nodes and outputs make a part.
use Rattle.std.specs.Prelude.{◌≡◌, ℕ, ◌<◌, ◌^◌, List, All, length}
use Rattle.eq_bits.specs.declared.node.Node.{Node}
use Rattle.eq_bits.specs.declared.node.Node.TheVariants.{Input}
use Rattle.eq_bits.specs.declared.part.Output.{Output}
use Rattle.eq_bits.specs.Node.{AllNameInputs, AreNodes, node_at}

-- both nodes of the output are among n nodes
abbrev pub NamesNodes : ℕ → Output → Type 0
NamesNodes n o = (o.gold < n) × (o.gate < n)

pub record MakePart (inputs : List (List ℕ)) (nodes : List Node) (outputs : List Output) : Type 0 where
  pub few_inputs : length inputs < 2 ^ 32
  pub few_nodes : length nodes < 2 ^ 32
  pub few_outputs : length outputs < 2 ^ 32
  -- operands stand before the node that reads them, and next values are nodes
  pub operands : AreNodes nodes
  -- each Input node stands for one of the inputs
  pub inputs_there : AllNameInputs (length inputs) nodes
  -- no two Input nodes stand for one input
  pub one_node : (a b i : ℕ) → a < length nodes → b < length nodes → node_at nodes a ≡ Input i →
      node_at nodes b ≡ Input i → a ≡ b
  -- both nodes of each output are there
  pub outputs_there : All (NamesNodes (length nodes)) outputs
