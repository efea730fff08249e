use Rattle.std.proofs.Common.{◌+◌, ◌*◌, ◌≤◌, length}
use Rattle.eq_blast.specs.inner.Growing.{Grown}
use Rattle.eq_blast.specs.inner.Stack.{Spells, Written, seen}
use Rattle.eq_blast.specs.inner.Steps.{step_cost, step_has, step_value}
use Rattle.eq_blast.proofs.rows.map.Given as goal

abbrev pub invariant-loop-j : goal.invariant-loop-j
invariant-loop-j l = record {
  few : length l.builder ≤ length l.fn.builder + 4 * l.j;
  grown : Grown (l.j * step_cost l.kind) l.fn.builder l.builder;
  written : Written (length l.fn.stack.items) l.j l.fn.stack.items l.stack.items;
  spells : Spells l.builder l.stack.items (length l.fn.stack.items) l.j
      (λ x i. step_value l.kind (seen x l.fn.stack.items l.left i) (seen x l.fn.stack.items l.right i) (x l.z))
      (λ d i. step_has l.kind (seen d l.fn.stack.items l.left i) (seen d l.fn.stack.items l.right i) (d l.z));
}
