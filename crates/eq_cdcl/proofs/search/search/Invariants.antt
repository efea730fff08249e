use Rattle.std.proofs.Common.{◌≡◌, ◌-◌, length}
use Rattle.eq_cdcl.specs.inner.Sound.{IsSound}
use Rattle.eq_cdcl.specs.inner.Watched.{Watching}
use Rattle.eq_cdcl.proofs.search.search.Given as goal

abbrev pub invariant-loop-number : goal.invariant-loop-number
invariant-loop-number l = record {
  sound : IsSound l.known l.trail;
  watching : Watching l.known l.trail l.watches;
  size : l.trail.size ≡ l.initial.trail.size;
}

abbrev pub decreases-loop-number : goal.decreases-loop-number
decreases-loop-number l = l.trail.size - length l.trail.lits
