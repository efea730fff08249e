use Rattle.std.proofs.Common.{◌≡◌, ◌≤◌}
use Rattle.eq_bits.specs.Cycle.{place}
use Rattle.eq_bits.proofs.part.Part.register_count.Given as goal

abbrev pub invariant-loop-node : goal.invariant-loop-node
invariant-loop-node l = record {
  count : l.count ≡ place l.self.nodes l.node-index;
  below : l.count ≤ l.node-index;
}
