use Rattle.std.proofs.Common.{◌≡◌, ℕ, ◌<◌, ◌↔◌, true, length}
use Rattle.eq_model.specs.Frames.{values}
use Rattle.eq_net.specs.Whole.{parts_of}
use Rattle.eq_part.specs.inner.Visits.{IsPassed}
use Rattle.eq_part.proofs.path.passed.Given as goal

abbrev pub invariant-loop-i : goal.invariant-loop-i
invariant-loop-i l = record {
  size : length l.bits ≡ l.i;
  told : (k : ℕ) → k < l.i → (values l.bits k ≡ true) ↔ IsPassed (parts_of l.gold) l.pairs l.leaders l.before l.behind
      k;
}
