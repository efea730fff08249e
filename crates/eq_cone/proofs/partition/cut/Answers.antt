use Rattle.std.proofs.Common.{◌≡◌, ℕ, ◌+◌, ◌<◌, ◌≤◌, List, slice_index_or, length, sym, ap, subst, ◌∙◌}
use Rattle.std.proofs.lemmas.List.{get_or_default}
use Rattle.std.proofs.lemmas.Result.{IfOk-weaker}
use Rattle.eq_bits.specs.Node.{system_of as system_of_nodes}
use Rattle.eq_bits.specs.Replay.{meaning}
use Rattle.eq_bits.specs.declared.part.Part.{Part}
use Rattle.eq_blast.specs.Blasted.{own_of}
use Rattle.eq_model.specs.Denotes.{Denotes}
use Rattle.eq_net.specs.Net.{system_of}
use Rattle.eq_net.specs.Whole.{parts_of}
use Rattle.eq_part.specs.Plans.{plan_of}
use Rattle.eq_part.specs.Tables.{holds, no_part}
use Rattle.eq_part.specs.declared.plan.Plan.{Plan}
use Rattle.eq_part.specs.declared.types.Partition.{Partition}
use Rattle.eq_cone.specs.Cut.{HasInputNames, inverted_count, partition_at}
use Rattle.eq_cone.specs.declared.roots.Graphs.{Graphs}
use Rattle.eq_cone.specs.declared.sides.Sides.{Sides}
use Rattle.eq_cone.specs.inner.Steps.{IsBegun, IsCutOut}
use Rattle.eq_cone.proofs.Denoted.{AreTables, is_begun, node_copy, part_bound, part_inputs}
use Rattle.eq_cone.proofs.partition.cut.Goals as goal

part_is : (plan : Plan) (parts : List Partition) (i : ℕ) (p : Partition) → p ≡ slice_index_or parts i p →
    parts ≡ plan.parts → i < length plan.parts → p ≡ partition_at plan i
part_is plan parts i p is same lt = is ∙ ap (λ (l : List Partition). slice_index_or l i p) same
    ∙ get_or_default plan.parts i p no_part lt

pub cut_out-requires-clause-begun : goal.cut_out-requires-clause-begun
cut_out-requires-clause-begun c =
    let g : Graphs = record { gold = c.args.gold; gate = c.args.gate; plan = c.args.plan } in
    let s : Sides = record {
      gold = c.as_slice.result;
      gate = c.as_slice-2.result;
      paired = c.as_slice-3.result;
      owners = c.as_slice-4.result;
      pairs = c.as_slice-5.result;
      part = c.args.i;
    } in
    let tables : AreTables g s c.args.paired.now = record {
      gold = c.as_slice.ensures;
      gate = c.as_slice-2.ensures;
      paired_is = c.as_slice-3.ensures;
      owners = c.as_slice-4.ensures;
      pairs = c.as_slice-5.ensures;
    } in
    let is = part_is c.args.plan.now c.as_slice-6.result.now c.args.i c.index-as_slice-i.result c.index-as_slice-i.is
    c.as_slice-6.ensures c.requires.part in
    let gold_design = c.net_is_design.ensures (parts_of c.args.gold_net.now) c.args.gold_net.now.is_net in
    let gate_design = c.net_is_design.ensures (parts_of c.args.gate_net.now) c.args.gate_net.now.is_net in
    let P : Partition → Type 0 = λ p. IsBegun g s p.outputs in
    subst P (sym is) (is_begun c.args.gold_net.now c.args.gate_net.now g s c.args.paired.now c.requires.gold
    c.requires.gate c.requires.plan c.requires.paired c.requires.part gold_design gate_design tables)

-- the plan has gold's bits by name
pub cut_out-requires-clause-bits : goal.cut_out-requires-clause-bits
cut_out-requires-clause-bits c = c.requires.plan.gold_there

pub returns-clause-inputs : goal.returns-clause-inputs
returns-clause-inputs c =
    let g : Graphs = record { gold = c.args.gold; gate = c.args.gate; plan = c.args.plan } in
    let s : Sides = record {
      gold = c.as_slice.result;
      gate = c.as_slice-2.result;
      paired = c.as_slice-3.result;
      owners = c.as_slice-4.result;
      pairs = c.as_slice-5.result;
      part = c.args.i;
    } in
    let tables : AreTables g s c.args.paired.now = record {
      gold = c.as_slice.ensures;
      gate = c.as_slice-2.ensures;
      paired_is = c.as_slice-3.ensures;
      owners = c.as_slice-4.ensures;
      pairs = c.as_slice-5.ensures;
    } in
    let is = part_is c.args.plan.now c.as_slice-6.result.now c.args.i c.index-as_slice-i.result c.index-as_slice-i.is
    c.as_slice-6.ensures c.requires.part in
    let gold_design = c.net_is_design.ensures (parts_of c.args.gold_net.now) c.args.gold_net.now.is_net in
    let gate_design = c.net_is_design.ensures (parts_of c.args.gate_net.now) c.args.gate_net.now.is_net in
    let P : Part → Type 0 = λ part. IsCutOut c.args.gold_net.now.nets g s c.index-as_slice-i.result.outputs part in
    let Q : Part → Type 0 = λ part. HasInputNames c.args.gold_net.now.nets c.args.plan.now c.args.i part in
    IfOk-weaker c.cut_out.result P Q
    (λ part cut. (
    let R : Partition → Type 0 = λ p. IsCutOut c.args.gold_net.now.nets g s p.outputs part in
    part_inputs c.args.gold_net.now c.args.gate_net.now g s c.args.paired.now c.requires.gold c.requires.gate
    c.requires.plan c.requires.paired c.requires.part gold_design gate_design tables part
    (subst R is cut))) c.cut_out.ensures.ok

pub returns-clause-bound : goal.returns-clause-bound
returns-clause-bound c =
    let g : Graphs = record { gold = c.args.gold; gate = c.args.gate; plan = c.args.plan } in
    let s : Sides = record {
      gold = c.as_slice.result;
      gate = c.as_slice-2.result;
      paired = c.as_slice-3.result;
      owners = c.as_slice-4.result;
      pairs = c.as_slice-5.result;
      part = c.args.i;
    } in
    let tables : AreTables g s c.args.paired.now = record {
      gold = c.as_slice.ensures;
      gate = c.as_slice-2.ensures;
      paired_is = c.as_slice-3.ensures;
      owners = c.as_slice-4.ensures;
      pairs = c.as_slice-5.ensures;
    } in
    let is = part_is c.args.plan.now c.as_slice-6.result.now c.args.i c.index-as_slice-i.result c.index-as_slice-i.is
    c.as_slice-6.ensures c.requires.part in
    let gold_design = c.net_is_design.ensures (parts_of c.args.gold_net.now) c.args.gold_net.now.is_net in
    let gate_design = c.net_is_design.ensures (parts_of c.args.gate_net.now) c.args.gate_net.now.is_net in
    let P : Part → Type 0 = λ part. IsCutOut c.args.gold_net.now.nets g s c.index-as_slice-i.result.outputs part in
    let Q : Part → Type 0 = λ part. length part.nodes ≤ c.args.gold_net.now.cost +
    c.args.gate_net.now.cost + inverted_count c.args.plan.now.pairs (partition_at c.args.plan.now c.args.i).outputs in
    IfOk-weaker c.cut_out.result P Q
    (λ part cut. (
    let R : Partition → Type 0 = λ p. IsCutOut c.args.gold_net.now.nets g s p.outputs part in
    part_bound c.args.gold_net.now c.args.gate_net.now g s c.args.paired.now c.requires.gold c.requires.gate
    c.requires.plan c.requires.paired c.requires.part gold_design gate_design tables part
    (subst R is cut))) c.cut_out.ensures.ok

pub returns-clause-denotes : goal.returns-clause-denotes
returns-clause-denotes c =
    let g : Graphs = record { gold = c.args.gold; gate = c.args.gate; plan = c.args.plan } in
    let s : Sides = record {
      gold = c.as_slice.result;
      gate = c.as_slice-2.result;
      paired = c.as_slice-3.result;
      owners = c.as_slice-4.result;
      pairs = c.as_slice-5.result;
      part = c.args.i;
    } in
    let tables : AreTables g s c.args.paired.now = record {
      gold = c.as_slice.ensures;
      gate = c.as_slice-2.ensures;
      paired_is = c.as_slice-3.ensures;
      owners = c.as_slice-4.ensures;
      pairs = c.as_slice-5.ensures;
    } in
    let is = part_is c.args.plan.now c.as_slice-6.result.now c.args.i c.index-as_slice-i.result c.index-as_slice-i.is
    c.as_slice-6.ensures c.requires.part in
    let gold_design = c.net_is_design.ensures (parts_of c.args.gold_net.now) c.args.gold_net.now.is_net in
    let gate_design = c.net_is_design.ensures (parts_of c.args.gate_net.now) c.args.gate_net.now.is_net in
    let gold = parts_of c.args.gold_net.now in
    let gate = parts_of c.args.gate_net.now in
    let plan = plan_of gold gate c.args.plan.now in
    let P : Part → Type 0 = λ part. IsCutOut c.args.gold_net.now.nets g s c.index-as_slice-i.result.outputs part in
    let Q : Part → Type 0 = λ part. Denotes (system_of gold) (system_of gate) plan
    (holds c.args.plan.now.parts c.args.i) (meaning part) in
    IfOk-weaker c.cut_out.result P Q
    (λ part cut. (
    let R : Partition → Type 0 = λ p. IsCutOut c.args.gold_net.now.nets g s p.outputs part in
    c.copied_graphs.ensures (system_of gold) (system_of gate) (system_of_nodes c.args.gold.now.nodes)
    (system_of_nodes c.args.gate.now.nodes) (own_of c.args.gold.now.bits) (own_of c.args.gate.now.bits)
    c.requires.gold.blasted.follows c.requires.gate.blasted.follows gold_design.drivers gate_design.drivers
    (c.nodes_are_a_system.ensures.system c.args.gold.now.nodes c.requires.gold.operands)
    (c.nodes_are_a_system.ensures.system c.args.gate.now.nodes c.requires.gate.operands)
    (c.nodes_are_a_system.ensures.loop_free c.args.gold.now.nodes c.requires.gold.operands)
    (c.nodes_are_a_system.ensures.loop_free c.args.gate.now.nodes c.requires.gate.operands) plan
    (holds c.args.plan.now.parts c.args.i) c.requires.plan.covers.one_to_one (meaning part)
    (c.part_is_one.ensures part)
    (node_copy c.args.gold_net.now c.args.gate_net.now g s c.args.paired.now c.requires.gold c.requires.gate
    c.requires.plan c.requires.paired c.requires.part gold_design gate_design tables part
    (subst R is cut)))) c.cut_out.ensures.ok
