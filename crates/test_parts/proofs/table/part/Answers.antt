use Rattle.std.proofs.Common.{arith}
use Rattle.test_parts.proofs.Making.{makes}
use Rattle.test_parts.proofs.table.part.Goals as goal

pub invariant_of-result : goal.invariant_of-result
invariant_of-result c = record {
  is_part = makes c.in_ok-inputs.inputs c.in_ok-nodes.nodes c.in_ok-outputs.outputs c.args.count c.args.nodes.now
      c.args.rows.now (let few = c.ranges.count.fits in omega arith) c.in_ok-inputs.ensures c.in_ok-nodes.ensures
      c.in_ok-outputs.ensures c.requires;
}
