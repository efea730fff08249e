use Rattle.std.proofs.Common.{◌≡◌, List, take}
use Rattle.eq_proof.specs.Literal.{Literal}
use Rattle.eq_proof.specs.Sets.{IsSubset}
use Rattle.eq_proof.specs.Propagation.{OthersFalse}
use Rattle.eq_proof.proofs.freshness.assume_others_false.Given as goal

abbrev pub invariant-loop-m : goal.invariant-loop-m
invariant-loop-m l = record {
  size : l.trail.size ≡ l.initial.trail.size;
  others : OthersFalse l.trail.lits (take l.m-index l.clause) l.l;
  least : (set : List Literal) → OthersFalse set l.clause l.l → IsSubset l.trail.lits set;
}
