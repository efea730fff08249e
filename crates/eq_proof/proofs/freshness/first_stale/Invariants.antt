use Rattle.std.proofs.Common.{◌≡◌, ◌<◌, ℕ, []}
use Rattle.eq_proof.specs.Fresh.{FreshAt}
use Rattle.eq_proof.proofs.freshness.first_stale.Given as goal

abbrev pub invariant-loop-index : goal.invariant-loop-index
invariant-loop-index l = record {
  size : l.trail.size ≡ l.initial.trail.size;
  empty : l.trail.lits ≡ [];
  fresh : (k : ℕ) → k < l.index → FreshAt l.f.clauses l.log k;
}
