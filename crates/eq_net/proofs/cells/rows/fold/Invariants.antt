use Rattle.eq_net.specs.inner.Cells.{Gives, Grown, seen}
use Rattle.eq_net.specs.inner.CellSteps.{folded}
use Rattle.eq_net.proofs.cells.rows.fold.Given as goal

abbrev pub invariant-loop-j : goal.invariant-loop-j
invariant-loop-j l = record {
  grown : Grown l.fn.cells.items l.cells.items;
  gives : Gives l.cells.items l.value (λ v. folded l.kind (v.cells l.start) l.j (seen v l.stack.items l.left) (seen v l.stack.items l.right));
}
