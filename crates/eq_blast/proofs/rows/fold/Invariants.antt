use Rattle.std.proofs.Common.{◌+◌, ◌*◌, ◌≤◌, ◌&&◌, length}
use Rattle.eq_net.specs.Numbers.{all_ones}
use Rattle.eq_blast.specs.inner.Growing.{Gives, Grown}
use Rattle.eq_blast.specs.inner.Stack.{seen}
use Rattle.eq_blast.specs.inner.Steps.{folded, step_cost}
use Rattle.eq_blast.proofs.rows.fold.Given as goal

abbrev pub invariant-loop-j : goal.invariant-loop-j
invariant-loop-j l = record {
  few : length l.builder ≤ length l.fn.builder + 4 * l.j;
  grown : Grown (l.j * step_cost l.kind) l.fn.builder l.builder;
  gives : Gives l.builder l.value
      (λ x. folded l.kind (x l.start) l.j (seen x l.stack.items l.left) (seen x l.stack.items l.right))
      (λ d. d l.start && (all_ones l.j (seen d l.stack.items l.left) && all_ones l.j (seen d l.stack.items l.right)));
}
