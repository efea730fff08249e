use Rattle.std.proofs.Common.{◌≡◌, take}
use Rattle.eq_cdcl.specs.inner.Asserting.{HasNoDecision}
use Rattle.eq_cdcl.specs.inner.Sound.{IsSound}
use Rattle.eq_cdcl.specs.inner.Watched.{Watching}
use Rattle.eq_cdcl.proofs.starting.start.Given as goal

abbrev pub invariant-loop-place : goal.invariant-loop-place
invariant-loop-place l = record {
  sound : IsSound l.known l.trail;
  root : HasNoDecision l.trail.reasons;
  watching : Watching (take l.place l.known) l.trail l.watches;
  head : l.watches.head ≡ 0;
  size : l.trail.size ≡ l.initial.trail.size;
}
