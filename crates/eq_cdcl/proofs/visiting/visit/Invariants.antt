use Rattle.std.proofs.Common.{◌≡◌, ◌≤◌, ◌-◌, length}
use Rattle.eq_cdcl.specs.inner.Visiting.{Visiting}
use Rattle.eq_cdcl.specs.inner.Watched.{list_of}
use Rattle.eq_cdcl.proofs.visiting.visit.Given as goal

abbrev pub invariant-loop-i : goal.invariant-loop-i
invariant-loop-i l = record {
  visiting : Visiting l.known l.trail l.watches l.l l.i;
  size : l.trail.size ≡ l.initial.trail.size;
  longer : length l.initial.trail.lits ≤ length l.trail.lits;
  head : l.watches.head ≡ l.initial.watches.head;
}

abbrev pub decreases-loop-i : goal.decreases-loop-i
decreases-loop-i l = length (list_of l.watches.lists.items l.l) - l.i
