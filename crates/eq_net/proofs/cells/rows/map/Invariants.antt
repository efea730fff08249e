use Rattle.std.proofs.Common.{length}
use Rattle.eq_net.specs.inner.Cells.{Grown, Spells, Written, seen}
use Rattle.eq_net.specs.inner.CellSteps.{step_value}
use Rattle.eq_net.proofs.cells.rows.map.Given as goal

abbrev pub invariant-loop-j : goal.invariant-loop-j
invariant-loop-j l = record {
  grown : Grown l.fn.cells.items l.cells.items;
  written : Written (length l.fn.stack.items) l.j l.fn.stack.items l.stack.items;
  spells : Spells l.cells.items l.stack.items (length l.fn.stack.items) l.j
      (λ v i. step_value l.kind (seen v l.fn.stack.items l.left i) (seen v l.fn.stack.items l.right i) (v.cells l.z));
}
