use Rattle.std.proofs.Common.{◌≡◌, ◌≤◌, ◌-◌, length}
use Rattle.eq_cdcl.specs.inner.Sound.{IsSound}
use Rattle.eq_cdcl.specs.inner.Watched.{Watching}
use Rattle.eq_cdcl.proofs.propagation.propagate.Given as goal

abbrev pub invariant-loop-watches : goal.invariant-loop-watches
invariant-loop-watches l = record {
  sound : IsSound l.known l.trail;
  watching : Watching l.known l.trail l.watches;
  size : l.trail.size ≡ l.initial.trail.size;
  longer : length l.initial.trail.lits ≤ length l.trail.lits;
}

abbrev pub decreases-loop-watches : goal.decreases-loop-watches
decreases-loop-watches l = l.trail.size - l.watches.head
