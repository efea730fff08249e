use Rattle.std.proofs.Common.{◌≡◌, ◌*◌, ◌≤◌}
use Rattle.eq_bits.specs.Node.{node_at}
use Rattle.eq_unroll.specs.inner.Counting.{node_clauses, total}
use Rattle.eq_unroll.proofs.count.frame_clauses.Given as goal

abbrev pub invariant-loop-node : goal.invariant-loop-node
invariant-loop-node l = record {
  value : l.clauses ≡ total (λ m. node_clauses l.register (node_at l.nodes m)) l.node-index;
  few : l.clauses ≤ 4 * l.node-index;
}
