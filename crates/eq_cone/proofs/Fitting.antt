-- What the table of paired nodes asks holds of the graphs of two netlists and a plan of these.
use Rattle.std.proofs.Common.{◌≡◌, ℕ, ◌<◌, ◌≤◌, length, slice_index_or, arith}
use Rattle.eq_bits.specs.declared.node.Graph.{Graph}
use Rattle.eq_blast.specs.Blasted.{own_of}
use Rattle.eq_net.specs.declared.net.Net.{Net}
use Rattle.eq_net.specs.Whole.{parts_of}
use Rattle.eq_part.specs.declared.plan.Plan.{Plan}
use Rattle.eq_part.specs.Plans.{IsPlanOf}
use Rattle.eq_cone.specs.Cut.{IsGraphOfNet}
use Rattle.eq_cone.proofs.PairTables.{bit_there, bits_once}
use Rattle.eq_cone.proofs.Pigeons.{pigeonhole}
use Rattle.eq_cone.proofs.Planned.{few_nodes, own_nodes}

module _ (gold gate : Net) (plan : Plan) (is_plan : IsPlanOf (parts_of gold) (parts_of gate) plan) (g : Graph) where
  pub gold_fits : IsGraphOfNet gold g → length plan.gold.pairs ≡ length g.bits
  gold_fits of_net = (let e = is_plan.gold_table in let f = of_net.blasted.count in omega arith)

  pub gate_fits : IsGraphOfNet gate g → length plan.gate.pairs ≡ length g.bits
  gate_fits of_net = (let e = is_plan.gate_table in let f = of_net.blasted.count in omega arith)

  -- each pair has a node of gold of its own
  pub pairs_fit : IsGraphOfNet gold g → length plan.pairs ≤ 2000000
  pairs_fit of_net =
      let own = own_nodes gold g of_net in
      let n = plan.gold_count in
      let m = gold_fits of_net in
      let there : (i : ℕ) → i < length plan.gold.bits → slice_index_or plan.gold.bits i 0 < length g.bits = λ i lt. (
      let e = bit_there plan.gold.bits plan.gold.pairs plan.gold.inverse i lt in omega arith) in
      let e = pigeonhole (length plan.gold.bits) (length g.nodes)
      (λ i. own_of g.bits (slice_index_or plan.gold.bits i 0))
      (λ i lt. own.there (slice_index_or plan.gold.bits i 0) (there i lt))
      (λ i j li lj same. bits_once plan.gold.bits plan.gold.pairs plan.gold.inverse i j li lj
      (own.once (slice_index_or plan.gold.bits i 0) (slice_index_or plan.gold.bits j 0) (there i li) (there j lj)
      same)) in
      let f = few_nodes gold g of_net in omega arith
