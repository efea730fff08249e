use Rattle.std.proofs.Common.{◌≡◌, ℕ, ◌+◌, ◌^◌, ◌<◌, ◌≤◌, cond, false, length, slice_index_or}
use Rattle.eq_net.specs.Numbers.{differ, number}
use Rattle.eq_net.specs.inner.Stack.{part}
use Rattle.eq_net.proofs.arithmetic.add.Given as goal

abbrev pub invariant-loop-j : goal.invariant-loop-j
invariant-loop-j l = record {
  size : length l.stack.items ≡ length l.fn.stack.items;
  kept : (k : ℕ) → k < l.left → slice_index_or l.stack.items k false ≡ slice_index_or l.fn.stack.items k false;
  total : number l.j (part l.stack.items l.left) + cond {A = ℕ} l.carry (2 ^ l.j) 0 ≡
      (number l.j (part l.fn.stack.items l.left) + number l.j (λ i. differ l.minus (part l.fn.stack.items l.right i))) + cond {A = ℕ} l.minus 1 0;
  rest : (k : ℕ) → l.left + l.j ≤ k → slice_index_or l.stack.items k false ≡ slice_index_or l.fn.stack.items k false;
}
