use Rattle.std.proofs.Common.{ℕ, ◌<◌, length}
use Rattle.eq_bits.specs.Node.{node_at}
use Rattle.test_parts.specs.Table.{IsRow}
use Rattle.test_parts.proofs.table.are_rows.Given as goal

abbrev pub invariant-loop-m : goal.invariant-loop-m
invariant-loop-m l = (j : ℕ) → j < l.m → IsRow (length l.nodes) l.inputs j (node_at l.nodes j)
