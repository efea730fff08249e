use Rattle.std.proofs.Common.{length}
use Rattle.eq_wit.specs.inner.Counting.{HasCounts, IsAt}
use Rattle.eq_wit.proofs.read.lines.Given as goal

abbrev pub invariant-loop-rest : goal.invariant-loop-rest
invariant-loop-rest l = record {
  at : IsAt l.text l.state l.line l.rest;
  counts : HasCounts l.state l.room.counts;
}

abbrev pub decreases-loop-rest : goal.decreases-loop-rest
decreases-loop-rest l = length l.rest
