-- Mirrors src/steps.rt; nothing here has to be believed.
use Rattle.std.specs.Prelude.{◌≡◌, ℕ, ◌<◌, ◌≤◌, List, Option, None, length}
use Rattle.eq_model.specs.System.{IsInput}
use Rattle.eq_bits.specs.declared.node.Node.{Node}
use Rattle.eq_bits.specs.declared.part.Part.{Part}
use Rattle.eq_bits.specs.Node.{driver_of, node_at}
use Rattle.eq_net.specs.declared.types.NetInfo.{NetInfo}
use Rattle.eq_cone.specs.declared.roots.Graphs.{Graphs}
use Rattle.eq_cone.specs.declared.sides.Sides.{Sides}
use Rattle.eq_cone.specs.Paired.{own_in_gate, own_in_gold}
use Rattle.eq_cone.specs.inner.Cones.{AreAscending, AreInputs, IsCone}
use Rattle.eq_cone.specs.inner.Roots.{AreGraphs, HasPositions}
use Rattle.eq_cone.specs.inner.Outputs.{AreNames, AreOutputsOf}
use Rattle.eq_cone.specs.inner.Parted.{AreRoots, IsCopiedWhole}
use Rattle.eq_cone.specs.inner.Sides.{AreSides, cut_of, has_complement, nodes_of}

-- both look at the same graphs and pairs
pub record LookAtOne (g : Graphs) (s : Sides) : Type 0 where
  pub gold : s.gold.now ≡ g.gold.now.nodes
  pub gate : s.gate.now ≡ g.gate.now.nodes
  pub pairs : s.pairs.now ≡ g.plan.now.pairs

-- what a cut begins with
pub record IsBegun (g : Graphs) (s : Sides) (positions : List ℕ) : Type 0 where
  pub graphs : AreGraphs g
  pub sides : AreSides s
  pub one : LookAtOne g s
  pub has_positions : HasPositions g positions
  pub few_positions : length positions ≤ 4000000
  pub uncut : (m : ℕ) → m < length (nodes_of s) → cut_of s m ≡ None → ¬ IsInput (driver_of (node_at (nodes_of s) m))

-- the cone of the outputs at these positions
pub record IsConeOf (g : Graphs) (s : Sides) (positions roots cone : List ℕ) : Type 0 where
  pub are_roots : AreRoots (length g.gold.now.nodes) (own_in_gold g.gold.now g.plan.now)
      (own_in_gate g.gate.now g.plan.now) positions (length positions) roots
  pub is_cone : IsCone (nodes_of s) (cut_of s) roots cone
  pub ascending : AreAscending cone
  pub few : length cone ≤ 4000000

-- a part with names, of a copied cone
pub record IsNamedPart (nets : List NetInfo) (g : Graphs) (positions inputs : List ℕ) (place : ℕ → Option ℕ)
    (old : List Node) (part : Part) : Type 0 where
  pub outs : AreOutputsOf nets g positions place old part.nodes part.outputs (length positions)
  pub names : AreNames nets g inputs part.inputs (length inputs)

-- a part cut out
pub record IsCutOut (nets : List NetInfo) (g : Graphs) (s : Sides) (positions : List ℕ) (part : Part) : Type 0 where
  pub roots : List ℕ
  pub cone : List ℕ
  pub inputs : List ℕ
  pub place : ℕ → Option ℕ
  pub old : List Node
  pub cone_of : IsConeOf g s positions roots cone
  pub are_inputs : AreInputs (cut_of s) cone inputs (length cone)
  pub ascending : AreAscending inputs
  pub whole : IsCopiedWhole (nodes_of s) (cut_of s) (has_complement s) cone inputs place old
  pub part_of : IsNamedPart nets g positions inputs place old part
