use Rattle.std.proofs.Common.{◌≡◌, ℕ, ◌<◌, length}
use Rattle.std.specs.Prelude.{is_some}
use Rattle.eq_marks.specs.inner.Carrying.{mark_of}
use Rattle.eq_marks.specs.inner.Clocking.{AreKnown, leads}
use Rattle.eq_marks.proofs.clocking.clock_class.Given as goal

abbrev pub invariant-loop-bit : goal.invariant-loop-bit
invariant-loop-bit l = record {
  known : AreKnown l.copies l.clock l.known.items;
  size : length l.class.items ≡ l.bit;
  each : (b : ℕ) → b < l.bit → is_some (mark_of l.class.items b) ≡ leads l.copies l.clock b;
}
