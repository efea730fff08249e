use Rattle.std.proofs.Common.{◌≡◌, ◌↔◌, ◌≤◌, ◌<◌, ℕ, [], take, IsTrue}
use Rattle.eq_proof.specs.Derivation.{DerivesAt, EndsEmpty, nonempty_of}
use Rattle.eq_proof.proofs.checker.check.Given as goal

abbrev pub invariant-loop-index : goal.invariant-loop-index
invariant-loop-index l = record {
  size : l.trail.size ≡ l.initial.trail.size;
  empty : l.trail.lits ≡ [];
  derived : (k : ℕ) → k < l.index → DerivesAt l.f.clauses l.log k;
  nonempty : l.checked.nonempty ≡ nonempty_of (take l.index l.log);
  few : l.checked.nonempty ≤ l.index;
  ends : IsTrue l.checked.ends ↔ EndsEmpty (take l.index l.log);
}
