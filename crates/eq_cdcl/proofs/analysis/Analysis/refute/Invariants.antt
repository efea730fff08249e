use Rattle.std.proofs.Common.{◌≡◌, ◌≤◌, [], length}
use Rattle.eq_cdcl.specs.inner.Resolved.{IsResolved}
use Rattle.eq_cdcl.proofs.analysis.Analysis.refute.Given as goal

abbrev pub invariant-loop-place : goal.invariant-loop-place
invariant-loop-place l = record {
  resolved : IsResolved l.known l.trail.lits l.place l.self.marks [] l.self.ants.items;
  kept : l.self.kept ≡ [];
  within : l.place ≤ length l.trail.lits;
}
