use Rattle.std.proofs.Common.{◌≡◌, ◌+◌, ◌-◌, ◌≤◌, length, drop}
use Rattle.std.specs.Prelude.{◌==◌}
use Rattle.std.specs.List.{position_or_len}
use Rattle.eq_wit.proofs.dividing.len_before.Given as goal

-- what was counted, and what is still counted
abbrev pub invariant-loop-len : goal.invariant-loop-len
invariant-loop-len l = (l.len + position_or_len (λ b. b == l.byte) (drop l.len l.text) ≡ position_or_len (λ b. b == l.byte) l.text) × (l.len ≤ length l.text)

abbrev pub decreases-loop-len : goal.decreases-loop-len
decreases-loop-len l = length l.text - l.len
