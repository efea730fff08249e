use Rattle.std.proofs.Common.{◌≡◌, ◌≢◌, ℕ, ◌<◌, ◌↔◌, false, length}
use Rattle.eq_model.specs.Frames.{values}
use Rattle.eq_net.specs.Net.{bits_of}
use Rattle.eq_net.specs.Whole.{parts_of}
use Rattle.eq_match.specs.Matched.{gold_bit}
use Rattle.eq_part.proofs.visits.paired.Given as goal

abbrev pub invariant-loop-i : goal.invariant-loop-i
invariant-loop-i l = record {
  size : length l.marks.items ≡ bits_of l.gold.nets;
  told : (b : ℕ) → b < bits_of l.gold.nets → (values l.marks.items b ≡ false) ↔
      ((i : ℕ) → i < l.i → gold_bit (parts_of l.gold) l.pairs i ≢ b);
}
