use Rattle.std.proofs.Common.{arith}
use Rattle.eq_cone.specs.inner.Copying.{place_of}
use Rattle.eq_cone.proofs.Handed.{few_inputs, have_nodes, inputs_are_pairs, is_task}
use Rattle.eq_cone.proofs.steps.of_cone.Goals as goal

pub copy-requires : goal.copy-requires
copy-requires c = (
  c.requires.cone.0,
  is_task c.args.graphs.now c.args.sides.now c.args.partition.now.outputs c.requires.begun c.args.cone.now
      c.in_ok-inputs.inputs c.in_ok-inputs.ensures.ok c.requires.cone.0 c.requires.cone.1
      c.len-distinct.ensures.distinct,
)

pub part-requires-clause-inputs : goal.part-requires-clause-inputs
part-requires-clause-inputs c = inputs_are_pairs c.args.graphs.now c.args.sides.now c.args.partition.now.outputs
    c.requires.begun c.args.cone.now c.in_ok-inputs.inputs c.in_ok-inputs.ensures.ok

pub part-requires-clause-nodes : goal.part-requires-clause-nodes
part-requires-clause-nodes c = have_nodes c.args.graphs.now c.args.sides.now c.args.partition.now.outputs
    c.requires.begun c.args.cone.now c.in_ok-inputs.inputs c.in_ok-inputs.ensures.ok c.requires.cone.0
    c.requires.cone.1 (place_of c.in_ok-copied.copied.places) c.in_ok-copied.copied.builder
    c.in_ok-copied.ensures.made.copied c.in_ok-copied.ensures.made.front

pub part-requires-clause-room : goal.part-requires-clause-room
part-requires-clause-room c =
    let e = c.in_ok-copied.ensures.made.room in
    let f = few_inputs c.args.graphs.now c.args.sides.now c.args.partition.now.outputs c.requires.begun
    c.args.cone.now c.in_ok-inputs.inputs c.in_ok-inputs.ensures.ok c.len-distinct.ensures.distinct in
    let g = c.requires.cone.1.few in
    let h = c.requires.begun.few_positions in
    omega arith
