use Rattle.std.proofs.Common.{◌≡◌, ◌+◌, ◌-◌, ◌≤◌, length, take}
use Rattle.std.specs.List.{suffix_len}
use Rattle.eq_config.specs.Lines as spec
use Rattle.eq_config.proofs.lines.before_blanks.Given as goal

-- the blanks that are left, and those that were passed
abbrev pub invariant-loop-len : goal.invariant-loop-len
invariant-loop-len l = (suffix_len spec.is_blank (take l.len l.text) + (length l.text - l.len) ≡ suffix_len spec.is_blank l.text) × (l.len ≤ length l.text)

abbrev pub decreases-loop-len : goal.decreases-loop-len
decreases-loop-len l = l.len
