use Rattle.std.proofs.Common.{◌≡◌, ◌-◌, ◌^◌, length, min}
use Rattle.eq_net.specs.Numbers.{number}
use Rattle.eq_net.specs.inner.Cells.{Performs, seen}
use Rattle.eq_net.specs.inner.CellSteps.{moved}
use Rattle.eq_net.proofs.cells.shifts.stages.Given as goal

abbrev pub invariant-loop-j : goal.invariant-loop-j
invariant-loop-j l = record {
  by : l.by ≡ min l.count (2 ^ l.j);
  performed : Performs (length l.fn.stack.items - l.top) l.top
      (λ v. moved l.up (length l.fn.stack.items - l.top) (min (length l.fn.stack.items - l.top) (number l.j (seen v l.fn.stack.items l.right))) (seen v l.fn.stack.items l.top))
      l.fn.cells.items l.cells.items l.fn.stack.items l.stack.items;
}
