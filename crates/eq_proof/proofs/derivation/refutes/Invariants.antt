use Rattle.std.proofs.Common.{◌≡◌, ◌↔◌, drop}
use Rattle.eq_proof.specs.Derivation.{Refutes}
use Rattle.eq_proof.proofs.derivation.refutes.Given as goal

abbrev pub invariant-loop-place : goal.invariant-loop-place
invariant-loop-place l = record {
  size : l.trail.size ≡ l.initial.trail.size;
  same : Refutes l.before l.initial.trail.lits l.ants ↔ Refutes l.before l.trail.lits (drop l.place l.ants);
}
