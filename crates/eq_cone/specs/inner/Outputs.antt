-- Mirrors src/parting.rt; nothing here has to be believed.
use Rattle.std.specs.Prelude.{◌≡◌, ℕ, ◌+◌, ◌<◌, ◌≤◌, List, [], Bool, false, Option, length, slice_index_or, take}
use Rattle.eq_model.specs.System.{IsInput}
use Rattle.eq_bits.specs.declared.node.Node.{Node}
use Rattle.eq_bits.specs.declared.part.Output.{Output}
use Rattle.eq_bits.specs.Node.{driver_of, node_at}
use Rattle.eq_bits.specs.Replay.{output_at}
use Rattle.eq_match.specs.Pairs.{pair_at}
use Rattle.eq_net.specs.declared.types.NetInfo.{NetInfo}
use Rattle.eq_net.specs.Naming.{name_of_bit}
use Rattle.eq_net.specs.Net.{HasBit}
use Rattle.eq_cone.specs.declared.roots.Graphs.{Graphs}
use Rattle.eq_cone.specs.Cut.{inverted_count}
use Rattle.eq_cone.specs.Paired.{own_in_gate, own_in_gold}
use Rattle.eq_cone.specs.inner.Cones.{number_at}
use Rattle.eq_cone.specs.inner.Copying.{IsGrown, IsSignedInput, new_of}
use Rattle.eq_cone.specs.inner.Parted.{AreOutputs}

-- the node is at the number, or a node that negates it
pub record IsSignedMade (b : Bool) (j : ℕ) (old new : List Node) (number : ℕ) : Type 0 where
  pub grown : IsGrown old new number
  pub signed : IsSignedInput new b j number
  pub none : b ≡ false → length new ≤ length old
  pub no_input : length old ≤ number → ¬ IsInput (driver_of (node_at new number))

-- the name of gold's bit of a pair
abbrev pub name_of : List NetInfo → Graphs → ℕ → List ℕ
name_of nets g i = name_of_bit nets (pair_at g.plan.now.pairs i).gold

-- gold's bits of all pairs are there
abbrev pub HasNamedBits : List NetInfo → Graphs → Type 0
HasNamedBits nets g = (i : ℕ) → i < length g.plan.now.pairs → HasBit nets (pair_at g.plan.now.pairs i).gold

-- the output of a pair
pub record IsOutputOf (nets : List NetInfo) (g : Graphs) (place : ℕ → Option ℕ) (i : ℕ) (old new : List Node)
    (o : Output) : Type 0 where
  pub name : o.name ≡ name_of nets g i
  pub gold : o.gold ≡ new_of place (own_in_gold g.gold.now g.plan.now i)
  pub gate : IsSignedMade (pair_at g.plan.now.pairs i).inverted
      (new_of place (length g.gold.now.nodes + own_in_gate g.gate.now g.plan.now i)) old new o.gate

-- all outputs have nodes
pub record HaveNodes (g : Graphs) (positions : List ℕ) (place : ℕ → Option ℕ) (nodes : List Node) : Type 0 where
  pub gold : (o : ℕ) → o < length positions →
      new_of place (own_in_gold g.gold.now g.plan.now (number_at positions o)) < length nodes
  pub gate : (o : ℕ) → o < length positions →
      new_of place (length g.gold.now.nodes + own_in_gate g.gate.now g.plan.now (number_at positions o)) < length nodes

-- the first n outputs
pub record AreOutputsOf (nets : List NetInfo) (g : Graphs) (positions : List ℕ) (place : ℕ → Option ℕ)
    (old new : List Node) (outputs : List Output) (n : ℕ) : Type 0 where
  pub are : AreOutputs (length g.gold.now.nodes) (own_in_gold g.gold.now g.plan.now)
      (own_in_gate g.gate.now g.plan.now) (λ i. (pair_at g.plan.now.pairs i).inverted) positions place old new outputs n
  pub names : (o : ℕ) → o < n → (output_at outputs o).name ≡ name_of nets g (number_at positions o)
  pub room : length new ≤ length old + n
  -- one node more for each inverted pair at most
  pub bound : length new ≤ length old + inverted_count g.plan.now.pairs (take n positions)

-- the names of gold's bits of the first n pairs
pub record AreNames (nets : List NetInfo) (g : Graphs) (inputs : List ℕ) (names : List (List ℕ)) (n : ℕ) : Type 0 where
  pub count : length names ≡ n
  pub each : (k : ℕ) → k < n → slice_index_or names k [] ≡ name_of nets g (number_at inputs k)
