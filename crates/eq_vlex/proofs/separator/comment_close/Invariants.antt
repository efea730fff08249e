use Rattle.std.proofs.Common.{ℕ, ◌<◌}
use Rattle.eq_vlex.specs.Separators as spec
use Rattle.eq_vlex.proofs.separator.comment_close.Given as goal

-- no place so far closes the comment
abbrev pub invariant-loop-at : goal.invariant-loop-at
invariant-loop-at l = (k : ℕ) → k < l.at → ¬ spec.ClosesComment l.body k
