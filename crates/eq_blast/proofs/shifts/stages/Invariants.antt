use Rattle.std.proofs.Common.{◌≡◌, ◌-◌, ◌*◌, ◌^◌, ◌&&◌, length, min}
use Rattle.eq_net.specs.Numbers.{all_ones, number}
use Rattle.eq_blast.specs.inner.Growing.{HasConstants}
use Rattle.eq_blast.specs.inner.Shifts.{moved, own}
use Rattle.eq_blast.specs.inner.Stack.{AreThere, Performs, seen}
use Rattle.eq_blast.proofs.shifts.stages.Given as goal

abbrev pub invariant-loop-j : goal.invariant-loop-j
invariant-loop-j l = record {
  by : l.by ≡ min l.count (2 ^ l.j);
  there : AreThere l.builder l.stack.items;
  constants : HasConstants l.builder;
  performed : Performs (l.j * (length l.fn.stack.items - l.top)) (length l.fn.stack.items - l.top) l.top
      (λ x. moved l.up (length l.fn.stack.items - l.top) (min (length l.fn.stack.items - l.top) (number l.j (seen x l.fn.stack.items l.right))) (seen x l.fn.stack.items l.top))
      (λ d i. own l.up (length l.fn.stack.items - l.top) (seen d l.fn.stack.items l.top) i && all_ones l.j (seen d l.fn.stack.items l.right))
      l.fn.builder l.builder l.fn.stack.items l.stack.items;
}
