use Rattle.std.proofs.Common.{◌≡◌, ℕ, false, length}
use Rattle.eq_model.specs.Frames.{values}
use Rattle.eq_net.proofs.sweep.no_marks.Given as goal

abbrev pub invariant-loop : goal.invariant-loop
invariant-loop l = record {
  size : length l.marks.items ≡ l.counter;
  none : (w : ℕ) → values l.marks.items w ≡ false;
}
