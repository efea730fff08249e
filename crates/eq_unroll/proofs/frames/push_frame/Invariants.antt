use Rattle.std.proofs.Common.{◌≡◌, ◌++◌, map, length}
use Rattle.eq_bits.specs.Node.{node_at}
use Rattle.eq_unroll.specs.Unrolling.{joined, ordered, rows_at}
use Rattle.eq_unroll.proofs.frames.push_frame.Given as goal

abbrev pub invariant-loop-m : goal.invariant-loop-m
invariant-loop-m l = l.clauses ≡ l.initial.clauses ++ map ordered
    (joined (λ m. rows_at l.f (length l.nodes) l.q m (node_at l.nodes m)) l.m)
