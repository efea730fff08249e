use Rattle.std.proofs.Common.{◌≢◌, ◌<◌, ◌≤◌, ℕ, Some, slice_get}
use Rattle.std.specs.Prelude.{codes}
use Rattle.eq_wit.proofs.steps.zero_from.Given as goal

abbrev pub invariant-loop-place : goal.invariant-loop-place
invariant-loop-place l = (k : ℕ) → l.from ≤ k → k < l.place → slice_get l.words k ≢ Some (codes "0")
