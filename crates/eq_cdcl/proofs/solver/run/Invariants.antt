use Rattle.std.proofs.Common.{◌≡◌, ◌≤◌, ◌+◌, ◌-◌, ℕ, false, length}
use Rattle.std.specs.Prelude.{All}
use Rattle.eq_proof.specs.Assigned.{AllBelow}
use Rattle.eq_cdcl.specs.inner.Knowledge.{known_of, IsLogged}
use Rattle.eq_cdcl.specs.inner.Sound.{IsSound}
use Rattle.eq_cdcl.specs.inner.Resolved.{marked}
use Rattle.eq_cdcl.specs.inner.Watched.{Watching}
use Rattle.eq_cdcl.proofs.solver.run.Given as goal

abbrev pub invariant-loop-log : goal.invariant-loop-log
invariant-loop-log l = record {
  size : l.trail.size ≡ l.f.vars + 1;
  sound : IsSound (known_of l.f.clauses l.log) l.trail;
  watching : Watching (known_of l.f.clauses l.log) l.trail l.watches;
  below : All (AllBelow l.trail.size) (known_of l.f.clauses l.log);
  clear : (p : ℕ) → marked l.marks p ≡ false;
  room : length l.marks ≡ l.trail.size;
  logged : IsLogged l.f.clauses l.log;
  within : length l.log ≤ l.budget;
}

abbrev pub decreases-loop-log : goal.decreases-loop-log
decreases-loop-log l = l.budget - length l.log
