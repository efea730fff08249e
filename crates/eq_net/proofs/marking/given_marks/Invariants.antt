use Rattle.std.proofs.Common.{◌≡◌, ℕ, length, true}
use Rattle.eq_model.specs.Frames.{values}
use Rattle.eq_net.specs.Net.{driver_at}
use Rattle.eq_net.specs.Whole.{parts_of}
use Rattle.eq_net.specs.inner.Marks.{IsGiven}
use Rattle.eq_net.proofs.marking.given_marks.Given as goal

abbrev pub invariant-loop-b : goal.invariant-loop-b
invariant-loop-b l = record {
  size : length l.done.items ≡ l.b;
  given : (k : ℕ) → values l.done.items k ≡ true → IsGiven (driver_at (parts_of l.net) k) (values l.now k);
}
