use Rattle.std.proofs.Common.{◌≡◌, ◌+◌, ◌-◌, ◌≤◌, eqb, length, drop}
use Rattle.std.specs.List.{position_or_len}
use Rattle.eq_config.proofs.lines.line_len.Given as goal

-- what was counted, and what is still counted
abbrev pub invariant-loop-len : goal.invariant-loop-len
invariant-loop-len l = (l.len + position_or_len (λ b. eqb b 10) (drop l.len l.text) ≡ position_or_len (λ b. eqb b 10) l.text) × (l.len ≤ length l.text)

abbrev pub decreases-loop-len : goal.decreases-loop-len
decreases-loop-len l = length l.text - l.len
