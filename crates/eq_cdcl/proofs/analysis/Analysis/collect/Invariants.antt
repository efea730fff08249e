use Rattle.std.proofs.Common.{◌≡◌, length}
use Rattle.eq_cdcl.specs.inner.Resolved.{IsResolved}
use Rattle.eq_cdcl.specs.inner.Asserting.{Asserts}
use Rattle.eq_cdcl.proofs.analysis.Analysis.collect.Given as goal

abbrev pub invariant-loop-place : goal.invariant-loop-place
invariant-loop-place l = record {
  resolved : IsResolved l.known l.trail.lits l.place l.self.marks l.self.kept l.self.ants.items;
  asserts : Asserts l.trail.lits l.trail.reasons l.uip l.place l.self.marks l.self.kept l.cut;
  room : length l.self.marks ≡ length l.initial.self.marks;
}
