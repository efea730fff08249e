use Rattle.std.proofs.Common.{◌≡◌, ◌-◌, ◌≤◌, ◌++◌, length, drop}
use Rattle.eq_names.specs.Brackets as spec
use Rattle.eq_names.proofs.bracket.members.Given as goal

-- the members so far, and those of what is left
abbrev pub invariant-loop-at : goal.invariant-loop-at
invariant-loop-at l = (l.ranges ++ spec.members (drop l.at l.text) ≡ spec.members l.text) × (l.at ≤ length l.text)

abbrev pub decreases-loop-at : goal.decreases-loop-at
decreases-loop-at l = length l.text - l.at
