use Rattle.std.proofs.Common.{◌≡◌, [], take}
use Rattle.std.specs.Prelude.{All}
use Rattle.eq_proof.specs.Fresh.{IsOpenFor}
use Rattle.eq_proof.proofs.freshness.is_fresh.Given as goal

abbrev pub invariant-loop-l : goal.invariant-loop-l
invariant-loop-l l = record {
  size : l.trail.size ≡ l.initial.trail.size;
  empty : l.trail.lits ≡ [];
  none : All (λ m. ¬ IsOpenFor l.before l.clause m) (take l.l-index l.clause);
}
