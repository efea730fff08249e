use Rattle.std.proofs.Common.{◌≢◌, ℕ, ◌≤◌, slice_get, Some}
use Rattle.eq_cdcl.specs.declared.trail.Reason.TheVariants.{Decision}
use Rattle.eq_cdcl.proofs.levels.last_decision.Given as goal

abbrev pub invariant-loop-place : goal.invariant-loop-place
invariant-loop-place l = (p : ℕ) → l.place ≤ p → slice_get l.trail.reasons p ≢ Some Decision
