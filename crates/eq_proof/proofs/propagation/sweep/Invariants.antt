use Rattle.eq_proof.proofs.Sweeping.{IsSwept}
use Rattle.eq_proof.proofs.propagation.sweep.Given as goal

abbrev pub invariant-loop-place : goal.invariant-loop-place
invariant-loop-place l = IsSwept l.before l.initial.trail l.place l.trail l.changed
