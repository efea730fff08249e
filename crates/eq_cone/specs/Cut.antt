-- What a cut asks of graphs and plans, and how a part is named.
use Rattle.std.specs.Prelude.{◌≡◌, ℕ, ◌<◌, ◌≤◌, List, [], false, AllPairs, length, count_by, slice_index_or}
use Rattle.eq_bits.specs.declared.node.Graph.{Graph}
use Rattle.eq_bits.specs.declared.part.Part.{Part}
use Rattle.eq_bits.specs.Node.{AreNodes}
use Rattle.eq_bits.specs.Replay.{output_at}
use Rattle.eq_blast.specs.Blasted.{IsBlasted}
use Rattle.eq_match.specs.declared.types.Pair.{Pair}
use Rattle.eq_match.specs.Pairs.{pair_at}
use Rattle.eq_net.specs.declared.net.Net.{Net}
use Rattle.eq_net.specs.declared.types.NetInfo.{NetInfo}
use Rattle.eq_net.specs.Naming.{name_of_bit}
use Rattle.eq_net.specs.Whole.{parts_of}
use Rattle.eq_part.specs.declared.plan.Plan.{Plan}
use Rattle.eq_part.specs.declared.types.Partition.{Partition}
use Rattle.eq_part.specs.Tables.{holds, no_part}

-- the graph is as the netlist's own is promised to be
pub record IsGraphOfNet (net : Net) (g : Graph) : Type 0 where
  pub blasted : IsBlasted (parts_of net) g.nodes g.bits
  pub operands : AreNodes g.nodes
  pub bound : length g.nodes ≤ net.cost

abbrev pub partition_at : Plan → ℕ → Partition
partition_at plan q = slice_index_or plan.parts q no_part

-- position o of a list of positions
abbrev pub position_at : List ℕ → ℕ → ℕ
position_at positions o = slice_index_or positions o 0

-- how many of the pairs at these positions are inverted
abbrev pub inverted_count : List Pair → List ℕ → ℕ
inverted_count pairs positions = count_by (λ i. (pair_at pairs i).inverted) positions

-- the name of gold's bit of pair i
abbrev pub gold_name : List NetInfo → Plan → ℕ → List ℕ
gold_name nets plan i = name_of_bit nets (pair_at plan.pairs i).gold

-- the part has the name of partition q, and its outputs the names of q's outputs, in order
pub record HasOutputNames (nets : List NetInfo) (plan : Plan) (q : ℕ) (part : Part) : Type 0 where
  pub name : part.name ≡ (partition_at plan q).name
  pub outputs : length part.outputs ≡ length (partition_at plan q).outputs
  pub each : (o : ℕ) → o < length part.outputs →
      (output_at part.outputs o).name ≡ gold_name nets plan (position_at (partition_at plan q).outputs o)

-- the part's inputs have the names of gold's bits of pairs outside partition q, in the order of the pairs
pub record HasInputNames (nets : List NetInfo) (plan : Plan) (q : ℕ) (part : Part) : Type 0 where
  pub positions : List ℕ
  pub ascending : AllPairs (λ i j. i < j) positions
  pub outside : (k : ℕ) → k < length positions → (position_at positions k < length plan.pairs) ×
      (holds plan.parts q (position_at positions k) ≡ false)
  pub inputs : length part.inputs ≡ length positions
  pub each : (k : ℕ) → k < length part.inputs →
      slice_index_or part.inputs k [] ≡ gold_name nets plan (position_at positions k)
