use Rattle.std.proofs.Common.{◌≡◌, take, map}
use Rattle.eq_proof.specs.Literal.{negation}
use Rattle.eq_proof.specs.Sets.{IsConsistent}
use Rattle.eq_proof.proofs.derivation.assume_false.Given as goal

abbrev pub invariant-loop-l : goal.invariant-loop-l
invariant-loop-l l = record {
  size : l.trail.size ≡ l.initial.trail.size;
  lits : l.trail.lits ≡ map negation (take l.l-index l.clause);
  consistent : IsConsistent (take l.l-index l.clause);
}
