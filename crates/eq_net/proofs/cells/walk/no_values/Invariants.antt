use Rattle.std.proofs.Common.{◌≡◌, ℕ, None, length}
use Rattle.eq_net.specs.inner.Circuits.{value_of}
use Rattle.eq_net.proofs.cells.walk.no_values.Given as goal

abbrev pub invariant-loop : goal.invariant-loop
invariant-loop l = record {
  size : length l.values.items ≡ l.counter;
  none : (k : ℕ) → value_of l.values.items k ≡ None;
}
