use Rattle.std.proofs.Common.{◌≡◌, ◌≤◌, [], length}
use Rattle.eq_cdcl.specs.inner.Resolved.{opens, IsResolved}
use Rattle.eq_cdcl.proofs.analysis.Analysis.find_uip.Given as goal

abbrev pub invariant-loop-place : goal.invariant-loop-place
invariant-loop-place l = record {
  resolved : IsResolved l.known l.trail.lits l.place l.self.marks [] l.self.ants.items;
  counted : opens l.self.marks l.start l.place ≡ l.count;
  some : 1 ≤ l.count;
  kept : l.self.kept ≡ [];
  within : l.place ≤ length l.trail.lits;
  room : length l.self.marks ≡ length l.initial.self.marks;
}
