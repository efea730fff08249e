use Rattle.std.proofs.Common.{suc, ◌*◌, ◌&&◌, length}
use Rattle.eq_net.specs.Numbers.{all_ones, differ}
use Rattle.eq_net.specs.Ripples.{carry}
use Rattle.eq_blast.specs.inner.Growing.{Gives, Grown}
use Rattle.eq_blast.specs.inner.Stack.{Spells, Written, seen}
use Rattle.eq_blast.proofs.rows.ripple.Given as goal

abbrev pub invariant-loop-j : goal.invariant-loop-j
invariant-loop-j l = record {
  grown : Grown (l.j * 4) l.fn.builder l.builder;
  carried : Gives l.builder l.carry
      (λ x. carry (x l.start) (seen x l.fn.stack.items l.left) (seen x l.fn.stack.items l.right) l.j)
      (λ d. d l.start && (all_ones l.j (seen d l.fn.stack.items l.left) && all_ones l.j (seen d l.fn.stack.items l.right)));
  written : Written (length l.fn.stack.items) l.j l.fn.stack.items l.stack.items;
  spells : Spells l.builder l.stack.items (length l.fn.stack.items) l.j
      (λ x i. differ (differ (seen x l.fn.stack.items l.left i) (seen x l.fn.stack.items l.right i)) (carry (x l.start) (seen x l.fn.stack.items l.left) (seen x l.fn.stack.items l.right) i))
      (λ d i. d l.start && (all_ones (suc i) (seen d l.fn.stack.items l.left) && all_ones (suc i) (seen d l.fn.stack.items l.right)));
}
