use Rattle.std.proofs.Common.{◌≡◌, ◌-◌, length}
use Rattle.eq_proof.specs.Sets.{IsSubset}
use Rattle.eq_proof.specs.Propagation.{IsForced}
use Rattle.eq_proof.proofs.propagation.propagate.Given as goal

abbrev pub invariant-loop : goal.invariant-loop
invariant-loop l = record {
  size : l.trail.size ≡ l.initial.trail.size;
  kept : IsSubset l.initial.trail.lits l.trail.lits;
  forced : IsForced l.before l.initial.trail.lits l.trail.lits;
}

abbrev pub decreases-loop : goal.decreases-loop
decreases-loop l = l.trail.size - length l.trail.lits
