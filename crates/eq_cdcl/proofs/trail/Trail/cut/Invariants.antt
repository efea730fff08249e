use Rattle.std.proofs.Common.{◌≡◌, ◌≤◌, length}
use Rattle.eq_cdcl.specs.inner.Assignment.{cut_to}
use Rattle.eq_cdcl.proofs.trail.Trail.cut.Given as goal

abbrev pub invariant-loop-self : goal.invariant-loop-self
invariant-loop-self l = record {
  within : l.len ≤ length l.self.lits;
  front : cut_to l.len l.self ≡ cut_to l.len l.initial.self;
}

abbrev pub decreases-loop-self : goal.decreases-loop-self
decreases-loop-self l = length l.self.lits
