use Rattle.std.proofs.Common.{◌≡◌, ◌<◌, ℕ, length, get_or}
use Rattle.eq_part.proofs.starting.own_keys.Given as goal

abbrev pub invariant-loop-position : goal.invariant-loop-position
invariant-loop-position l = record {
  count : length l.keys.items ≡ l.position;
  own : (i : ℕ) → i < l.position → get_or l.keys.items i 0 ≡ i;
}
