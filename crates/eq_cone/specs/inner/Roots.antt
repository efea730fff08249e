-- Mirrors src/roots.rt; nothing here has to be believed.
use Rattle.std.specs.Prelude.{ℕ, ◌+◌, ◌<◌, ◌≤◌, List, length, slice_index_or}
use Rattle.eq_cone.specs.declared.roots.Graphs.{Graphs}
use Rattle.eq_cone.specs.Paired.{own_in_gate, own_in_gold}
use Rattle.eq_cone.specs.inner.Cones.{number_at}

-- the paired bits have own nodes
pub record AreGraphs (g : Graphs) : Type 0 where
  pub gold_bits : (i : ℕ) → i < length g.plan.now.pairs →
      slice_index_or g.plan.now.gold.bits i 0 < length g.gold.now.bits
  pub gate_bits : (i : ℕ) → i < length g.plan.now.pairs →
      slice_index_or g.plan.now.gate.bits i 0 < length g.gate.now.bits
  pub gold_nodes : (i : ℕ) → i < length g.plan.now.pairs → own_in_gold g.gold.now g.plan.now i < length g.gold.now.nodes
  pub gate_nodes : (i : ℕ) → i < length g.plan.now.pairs → own_in_gate g.gate.now g.plan.now i < length g.gate.now.nodes
  pub few : length g.gold.now.nodes + length g.gate.now.nodes ≤ 4000000

-- the positions are those of pairs
abbrev pub HasPositions : Graphs → List ℕ → Type 0
HasPositions g positions = (o : ℕ) → o < length positions → number_at positions o < length g.plan.now.pairs
