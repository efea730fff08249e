use Rattle.std.proofs.Common.{◌≡◌, ◌+◌, ◌-◌, ◌≤◌, length, drop}
use Rattle.std.specs.List.{position_or_len}
use Rattle.eq_config.specs.Lines as spec
use Rattle.eq_config.proofs.lines.word_len.Given as goal

-- what was counted, and what is still counted
abbrev pub invariant-loop-len : goal.invariant-loop-len
invariant-loop-len l = (l.len + position_or_len spec.is_blank (drop l.len l.text) ≡ position_or_len spec.is_blank l.text) × (l.len ≤ length l.text)

abbrev pub decreases-loop-len : goal.decreases-loop-len
decreases-loop-len l = length l.text - l.len
