-- What is cut out of the graphs of two netlists denotes the partition.
use Rattle.std.proofs.Common.{◌≡◌, ◌≢◌, ℕ, ◌<◌, ◌≤◌, ◌+◌, ◌&&◌, List, Bool, true, false, Option, None, AllPairs, length, arith, sym, ap, subst, ◌∙◌}
use Rattle.std.proofs.Math.Seq.{take-length}
use Rattle.std.proofs.lemmas.Bool.{le-leb, lt-leb}
use Rattle.eq_model.specs.System.{IsInput}
use Rattle.eq_model.specs.Run.{IsDesign}
use Rattle.eq_model.specs.Plan.{Plan as DesignPlan}
use Rattle.eq_model.specs.Copying.{Copying}
use Rattle.eq_model.specs.Graph.{on_nodes}
use Rattle.eq_bits.specs.declared.node.Node.{Node}
use Rattle.eq_bits.specs.declared.part.Part.{Part}
use Rattle.eq_bits.specs.Node.{AreNodes, driver_of, node_at, system_of as system_of_nodes}
use Rattle.eq_bits.specs.Replay.{meaning}
use Rattle.eq_blast.specs.Blasted.{own_of}
use Rattle.eq_net.specs.declared.net.Net.{Net}
use Rattle.eq_net.specs.Net.{design_of, number_of}
use Rattle.eq_net.specs.Whole.{parts_of}
use Rattle.eq_match.specs.declared.types.Pair.{Pair}
use Rattle.eq_match.specs.Pairs.{pair_at}
use Rattle.eq_part.specs.Plans.{IsPlanOf, plan_of}
use Rattle.eq_part.specs.Tables.{holds}
use Rattle.eq_cone.specs.declared.roots.Graphs.{Graphs}
use Rattle.eq_cone.specs.declared.sides.Sides.{Sides}
use Rattle.eq_cone.specs.Cut.{HasInputNames, IsGraphOfNet, inverted_count, partition_at}
use Rattle.eq_cone.specs.Paired.{ArePaired, own_in_gate, own_in_gold, pair_of}
use Rattle.eq_cone.specs.inner.Cones.{AreAscending, number_at}
use Rattle.eq_cone.specs.inner.Steps.{IsBegun, IsCutOut}
use Rattle.eq_cone.specs.inner.Parted.{AreOutputs, AreRoots, TellsCuts}
use Rattle.eq_cone.specs.inner.Sides.{cut_of, has_complement, joined, nodes_of, outside}
use Rattle.eq_cone.proofs.Advanced.{place_in}
use Rattle.eq_cone.proofs.Bounded.{few_copied}
use Rattle.eq_cone.proofs.Both.{is_copying}
use Rattle.eq_cone.proofs.Owned.{few_pairs, gold_once, gate_bit, gate_number, gate_there, gold_bit, gold_number, gold_there, has_some, has_there, tells, uncut}
use Rattle.eq_cone.proofs.Pigeons.{few_distinct, one_place}
use Rattle.eq_cone.proofs.Planned.{few_nodes}
use Rattle.eq_cone.proofs.Rows.{joined_length}
use Rattle.std.proofs.lemmas.List.Elements.{Contains-get_or}

-- the tables that a cut looks at are those of the graphs and the plan
pub record AreTables (g : Graphs) (s : Sides) (paired : List (Option ℕ)) : Type 0 where
  pub gold : s.gold.now ≡ g.gold.now.nodes
  pub gate : s.gate.now ≡ g.gate.now.nodes
  pub paired_is : s.paired.now ≡ paired
  pub owners : s.owners.now ≡ g.plan.now.owners
  pub pairs : s.pairs.now ≡ g.plan.now.pairs

ascending_once : (xs : List ℕ) → AreAscending xs → AllPairs (λ x y. x ≢ y) xs
ascending_once xs ascending i j d less lt = λ same. (let e = ascending i j d less lt in omega arith)

module _ (gold_net gate_net : Net) (g : Graphs) (s : Sides) (paired : List (Option ℕ))
    (of_gold : IsGraphOfNet gold_net g.gold.now) (of_gate : IsGraphOfNet gate_net g.gate.now)
    (is_plan : IsPlanOf (parts_of gold_net) (parts_of gate_net) g.plan.now)
    (are : ArePaired g.gold.now g.gate.now g.plan.now paired) (lt : s.part < length g.plan.now.parts)
    (gold_design : IsDesign (design_of (parts_of gold_net)))
    (gate_design : IsDesign (design_of (parts_of gate_net))) (tables : AreTables g s paired) where
  positions : List ℕ
  positions = (partition_at g.plan.now s.part).outputs

  within : (o : ℕ) → o < length (partition_at g.plan.now s.part).outputs →
      (number_at (partition_at g.plan.now s.part).outputs o < length g.plan.now.pairs) ×
      (holds g.plan.now.parts s.part (number_at (partition_at g.plan.now s.part).outputs o) ≡ true)
  within o less =
      let held = has_there (partition_at g.plan.now s.part).outputs o less in
      ((is_plan.covers.in_pairs s.part (number_at (partition_at g.plan.now s.part).outputs o) lt held).0, held)

  uncut_here : (m : ℕ) → m < length (nodes_of s) → cut_of s m ≡ None → ¬ IsInput (driver_of (node_at (nodes_of s) m))
  uncut_here =
      let U : List Node → List Node → List (Option ℕ) → List (Option ℕ) → Type 0 = λ x y p o.
      (m : ℕ) → m < length (joined x y) → outside o s.part (pair_of p m) ≡ None →
      ¬ IsInput (driver_of (node_at (joined x y) m)) in
      subst (λ (x : List Node). U x s.gate.now s.paired.now s.owners.now) (sym tables.gold)
      (subst (λ (y : List Node). U g.gold.now.nodes y s.paired.now s.owners.now) (sym tables.gate)
      (subst (λ (p : List (Option ℕ)). U g.gold.now.nodes g.gate.now.nodes p s.owners.now) (sym tables.paired_is)
      (subst (λ (o : List (Option ℕ)). U g.gold.now.nodes g.gate.now.nodes paired o) (sym tables.owners)
      (uncut gold_net gate_net g.gold.now g.gate.now g.plan.now paired s.part of_gold of_gate is_plan are lt gold_design
      gate_design))))

  tells_here : TellsCuts (length s.gold.now) (length g.plan.now.pairs) (own_in_gold g.gold.now g.plan.now)
      (own_in_gate g.gate.now g.plan.now) (holds g.plan.now.parts s.part) (cut_of s)
  tells_here =
      let U : List Node → List (Option ℕ) → List (Option ℕ) → Type 0 = λ x p o.
      TellsCuts (length x) (length g.plan.now.pairs) (own_in_gold g.gold.now g.plan.now)
      (own_in_gate g.gate.now g.plan.now) (holds g.plan.now.parts s.part) (λ m. outside o s.part (pair_of p m)) in
      subst (λ (x : List Node). U x s.paired.now s.owners.now) (sym tables.gold)
      (subst (λ (p : List (Option ℕ)). U g.gold.now.nodes p s.owners.now) (sym tables.paired_is)
      (subst (λ (o : List (Option ℕ)). U g.gold.now.nodes paired o) (sym tables.owners)
      (tells gold_net gate_net g.gold.now g.gate.now g.plan.now paired s.part of_gold of_gate is_plan are lt gold_design
      gate_design)))

  pub is_begun : IsBegun g s (partition_at g.plan.now s.part).outputs
  is_begun =
      let a = few_nodes gold_net g.gold.now of_gold in
      let b = few_nodes gate_net g.gate.now of_gate in
      let c = few_pairs gold_net gate_net g.gold.now g.gate.now g.plan.now paired s.part of_gold of_gate is_plan are lt
      gold_design gate_design in
      let d = ap (λ (l : List Node). length l) tables.gold in
      let e = ap (λ (l : List Node). length l) tables.gate in
      let f = ap (λ (l : List (Option ℕ)). length l) tables.paired_is in
      let h = ap (λ (l : List (Option ℕ)). length l) tables.owners in
      let k = ap (λ (l : List Pair). length l) tables.pairs in
      let n = are.count in
      let o = g.plan.now.owned.count in
      record {
        graphs = record {
          gold_bits = gold_bit gold_net gate_net g.gold.now g.gate.now g.plan.now paired s.part of_gold of_gate is_plan
              are lt gold_design gate_design;
          gate_bits = gate_bit gold_net gate_net g.gold.now g.gate.now g.plan.now paired s.part of_gold of_gate is_plan
              are lt gold_design gate_design;
          gold_nodes = gold_there gold_net gate_net g.gold.now g.gate.now g.plan.now paired s.part of_gold of_gate
              is_plan are lt gold_design gate_design;
          gate_nodes = gate_there gold_net gate_net g.gold.now g.gate.now g.plan.now paired s.part of_gold of_gate
              is_plan are lt gold_design gate_design;
          few = omega arith;
        };
        sides = record {
          gold_nodes = subst (λ (l : List Node). AreNodes l) (sym tables.gold) of_gold.operands;
          gate_nodes = subst (λ (l : List Node). AreNodes l) (sym tables.gate) of_gate.operands;
          few = omega arith;
          count = omega arith;
          owned = λ m i same. (
              let t = are.only m i (sym (ap (λ (l : List (Option ℕ)). pair_of l m) tables.paired_is) ∙ same) in
              let less = t.0 in omega arith);
          few_pairs = omega arith;
          owners = omega arith;
        };
        one = record { gold = tables.gold; gate = tables.gate; pairs = tables.pairs };
        has_positions = λ i less. (within i less).0;
        few_positions = (
            let r = few_distinct (partition_at g.plan.now s.part).outputs (length g.plan.now.pairs) (is_plan.outputs_once s.part) (λ m c. (
            let w = within c.0 c.1 in
            let at = place_in (partition_at g.plan.now s.part).outputs m c in
            let v = (within at.0 at.1).0 in
            let u = at.2 in omega arith)) in omega arith);
        uncut = uncut_here;
      }

  -- the plan by own nodes
  owned_plan : DesignPlan
  owned_plan = on_nodes (own_of g.gold.now.bits) (own_of g.gate.now.bits)
      (plan_of (parts_of gold_net) (parts_of gate_net) g.plan.now)

  table_plan : DesignPlan
  table_plan = record (plan_of (parts_of gold_net) (parts_of gate_net) g.plan.now) {
    gold = own_in_gold g.gold.now g.plan.now;
    gate = own_in_gate g.gate.now g.plan.now;
  }

  -- the tables have the bits' numbers, so both plans are one
  same_plan : table_plan ≡ owned_plan
  unfolding owned_plan table_plan
  same_plan =
      let golds : own_in_gold g.gold.now g.plan.now ≡ (λ i. own_of g.gold.now.bits
      (number_of gold_net.nets (pair_at g.plan.now.pairs i).gold)) = λ j i. own_of g.gold.now.bits
      (gold_number gold_net gate_net g.gold.now g.gate.now g.plan.now paired s.part of_gold of_gate is_plan are lt
      gold_design gate_design i j) in
      let gates : own_in_gate g.gate.now g.plan.now ≡ (λ i. own_of g.gate.now.bits
      (number_of gate_net.nets (pair_at g.plan.now.pairs i).gate)) = λ j i. own_of g.gate.now.bits
      (gate_number gold_net gate_net g.gold.now g.gate.now g.plan.now paired s.part of_gold of_gate is_plan are lt
      gold_design gate_design i j) in
      λ j. record (plan_of (parts_of gold_net) (parts_of gate_net) g.plan.now) { gold = golds j; gate = gates j }

  gold_size : length g.gold.now.nodes ≡ length s.gold.now
  gold_size = ap (λ (l : List Node). length l) (sym tables.gold)

  plain_gold : (m i : ℕ) → m < length s.gold.now → has_complement s m i ≡ false
  plain_gold m i less = ap (λ (b : Bool). b && (pair_at s.pairs.now i).inverted) (lt-leb (length s.gold.now) m less)

  signed_gate : (b i : ℕ) → has_complement s (length s.gold.now + b) i ≡ (pair_at g.plan.now.pairs i).inverted
  signed_gate b i = ap (λ (x : Bool). x && (pair_at s.pairs.now i).inverted)
      (le-leb (length s.gold.now) (length s.gold.now + b) (omega arith))
      ∙ ap (λ (l : List Pair). (pair_at l i).inverted) tables.pairs

  table_copy : (part : Part) → IsCutOut gold_net.nets g s (partition_at g.plan.now s.part).outputs part →
      Copying (system_of_nodes s.gold.now) (system_of_nodes s.gate.now) table_plan (holds g.plan.now.parts s.part)
      (meaning part)
  unfolding table_plan
  table_copy part is =
      let places = (partition_at g.plan.now s.part).outputs in
      is_copying s.gold.now s.gate.now table_plan (holds g.plan.now.parts s.part) (cut_of s) (has_complement s) is.roots
      is.cone is.inputs places is.place is.old is.cone_of.is_cone is.whole uncut_here part
      (subst (λ (n : ℕ). AreRoots n (own_in_gold g.gold.now g.plan.now) (own_in_gate g.gate.now g.plan.now) places
      (length places) is.roots) gold_size is.cone_of.are_roots)
      (subst (λ (n : ℕ). AreOutputs n (own_in_gold g.gold.now g.plan.now) (own_in_gate g.gate.now g.plan.now)
      (λ i. (pair_at g.plan.now.pairs i).inverted) places is.place is.old part.nodes part.outputs (length places))
      gold_size is.part_of.outs.are)
      is.are_inputs is.part_of.names.count
      (λ j k lj lk same. one_place is.inputs (ascending_once is.inputs is.ascending) j k lj lk same)
      tells_here
      (λ i less. (
      let e = gold_there gold_net gate_net g.gold.now g.gate.now g.plan.now paired s.part of_gold of_gate is_plan are
      lt gold_design gate_design i less in
      let f = gold_size in omega arith))
      plain_gold signed_gate (record {
        within = within;
        each = λ i less held. has_some places i held;
        once = λ o u lo lu same. one_place places (is_plan.outputs_once s.part) o u lo lu same;
      })

  pub node_copy : (part : Part) → IsCutOut gold_net.nets g s (partition_at g.plan.now s.part).outputs part →
      Copying (system_of_nodes g.gold.now.nodes) (system_of_nodes g.gate.now.nodes)
      (on_nodes (own_of g.gold.now.bits) (own_of g.gate.now.bits)
      (plan_of (parts_of gold_net) (parts_of gate_net) g.plan.now)) (holds g.plan.now.parts s.part) (meaning part)
  unfolding owned_plan
  node_copy part is =
      let U : List Node → List Node → DesignPlan → Type 0 = λ x y p. Copying (system_of_nodes x) (system_of_nodes y) p
      (holds g.plan.now.parts s.part) (meaning part) in
      subst (λ (x : List Node). U x g.gate.now.nodes owned_plan) tables.gold
      (subst (λ (y : List Node). U s.gold.now y owned_plan) tables.gate
      (subst (λ (p : DesignPlan). U s.gold.now s.gate.now p) same_plan (table_copy part is)))

  pub part_inputs : (part : Part) → IsCutOut gold_net.nets g s (partition_at g.plan.now s.part).outputs part →
      HasInputNames gold_net.nets g.plan.now s.part part
  part_inputs part is = record {
    positions = is.inputs;
    ascending = is.ascending;
    outside = λ k less. (
        let t = is.are_inputs.only (number_at is.inputs k) (Contains-get_or is.inputs k 0 less) in
        tells_here.pair t.0 (number_at is.inputs k) t.2);
    inputs = is.part_of.names.count;
    each = λ k less. (let e = is.part_of.names.count in is.part_of.names.each k (omega arith));
  }

  pub part_bound : (part : Part) → IsCutOut gold_net.nets g s (partition_at g.plan.now s.part).outputs part →
      length part.nodes ≤ gold_net.cost + gate_net.cost +
      inverted_count g.plan.now.pairs (partition_at g.plan.now s.part).outputs
  part_bound part is =
      let places = (partition_at g.plan.now s.part).outputs in
      let n = joined_length s.gold.now s.gate.now in
      let a = gold_size in
      let b = ap (λ (l : List Node). length l) tables.gate in
      let low : (i : ℕ) → i < length g.plan.now.pairs → own_in_gold g.gold.now g.plan.now i < length s.gold.now =
      λ i less. (
      let e = gold_there gold_net gate_net g.gold.now g.gate.now g.plan.now paired s.part of_gold of_gate is_plan
      are lt gold_design gate_design i less in
      omega arith) in
      let copied = few_copied (nodes_of s) (cut_of s) (has_complement s) is.roots is.cone is.inputs is.place is.old
      is.cone_of.is_cone is.whole (length s.gold.now) (length g.plan.now.pairs) (own_in_gold g.gold.now g.plan.now)
      (own_in_gate g.gate.now g.plan.now) (holds g.plan.now.parts s.part) is.are_inputs
      (λ j k lj lk same. one_place is.inputs (ascending_once is.inputs is.ascending) j k lj lk same) tells_here low
      (omega arith) (gold_once gold_net gate_net g.gold.now g.gate.now g.plan.now paired s.part of_gold of_gate is_plan
      are lt gold_design gate_design) plain_gold in
      let c = is.part_of.outs.bound in
      let d = ap (inverted_count g.plan.now.pairs) (take-length places) in
      let e = of_gold.bound in
      let f = of_gate.bound in
      omega arith
