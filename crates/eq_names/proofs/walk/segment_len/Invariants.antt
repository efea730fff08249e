use Rattle.std.proofs.Common.{◌≡◌, ◌+◌, ◌-◌, ◌≤◌, length, drop}
use Rattle.eq_names.specs.inner.Segments as spec
use Rattle.eq_names.proofs.walk.segment_len.Given as goal

-- what was counted, and what is still counted
abbrev pub invariant-loop-len : goal.invariant-loop-len
invariant-loop-len l = (l.len + spec.segment_len (drop l.len l.pieces) ≡ spec.segment_len l.pieces) ×
    (l.len ≤ length l.pieces)

abbrev pub decreases-loop-len : goal.decreases-loop-len
decreases-loop-len l = length l.pieces - l.len
