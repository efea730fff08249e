use Rattle.std.proofs.Common.{◌≡◌, ℕ, ◌<◌, take}
use Rattle.eq_vlex.specs.Separators as spec
use Rattle.eq_vlex.proofs.separator.attribute_close.Given as goal

-- no place so far closes the attribute
abbrev pub invariant-loop-at : goal.invariant-loop-at
invariant-loop-at l = record {
  place : l.place ≡ spec.place_after (take l.at l.body);
  still_open : (k : ℕ) → k < l.at → ¬ spec.ClosesAttribute l.body k;
}
