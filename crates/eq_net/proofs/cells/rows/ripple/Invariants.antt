use Rattle.std.proofs.Common.{length}
use Rattle.eq_net.specs.Numbers.{differ}
use Rattle.eq_net.specs.Ripples.{carry}
use Rattle.eq_net.specs.inner.Cells.{Gives, Grown, Spells, Written, seen}
use Rattle.eq_net.proofs.cells.rows.ripple.Given as goal

abbrev pub invariant-loop-j : goal.invariant-loop-j
invariant-loop-j l = record {
  grown : Grown l.fn.cells.items l.cells.items;
  carried : Gives l.cells.items l.carry (λ v. carry (v.cells l.start) (seen v l.fn.stack.items l.left) (seen v l.fn.stack.items l.right) l.j);
  written : Written (length l.fn.stack.items) l.j l.fn.stack.items l.stack.items;
  spells : Spells l.cells.items l.stack.items (length l.fn.stack.items) l.j
      (λ v i. differ (differ (seen v l.fn.stack.items l.left i) (seen v l.fn.stack.items l.right i)) (carry (v.cells l.start) (seen v l.fn.stack.items l.left) (seen v l.fn.stack.items l.right) i));
}
