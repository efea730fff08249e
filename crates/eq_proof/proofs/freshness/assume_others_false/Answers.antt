use Rattle.std.proofs.Common.{◌≡◌, arith, take, List, ◌++◌, ◌∷◌, [], sym, ap, ◌∙◌, subst}
use Rattle.std.proofs.lemmas.List.{take_all}
use Rattle.eq_proof.specs.Literal.{Literal, negation}
use Rattle.eq_proof.specs.Sets.{IsSubset}
use Rattle.eq_proof.specs.Propagation.{OthersFalse}
use Rattle.eq_proof.proofs.Judging.{taken_more, read_member}
use Rattle.eq_proof.proofs.Forcing.{others_equal, others_false, others_assigned, least_assigned, others_refused, equal_when, differ_when}
use Rattle.eq_proof.proofs.freshness.assume_others_false.Goals as goal
use Rattle.eq_proof.proofs.freshness.assume_others_false.Goals.{in-Unassigned+in_ok-assign-in-Unassigned, in-False}

pub loop-m-preserved-then-eq : goal.loop-m-preserved-then-eq
loop-m-preserved-then-eq c =
    let m = c.m-item.result in
    let more = taken_more c.args.clause.now c.loop-m.m-index m (omega arith) c.m-item.is in
    let is = equal_when m c.args.l (sym c.if-eq.ensures) in
    record {
      size = c.loop-m.invariant.size;
      others = rw more (others_equal c.loop-m.trail.lits (take c.loop-m.m-index c.args.clause.now) c.args.l m is c.loop-m.invariant.others);
      least = c.loop-m.invariant.least;
    }

pub returns-in-True-clause-refused : goal.returns-in-True-clause-refused
returns-in-True-clause-refused c =
    let m = c.m-item.result in
    let differ = differ_when m c.args.l (sym c.if-eq.ensures) in
    others_refused c.loop-m.trail.lits c.args.clause.now c.args.l m (read_member _ c.loop-m.m-index m (omega arith) c.m-item.is) differ c.in-True.ensures.value.0 c.loop-m.invariant.least

pub loop-m-preserved : goal.loop-m-preserved
loop-m-preserved c =
    let m = c.m-item.result in
    let seen = take c.loop-m.m-index c.args.clause.now in
    let more = taken_more c.args.clause.now c.loop-m.m-index m (omega arith) c.m-item.is in
    let differ = differ_when m c.args.l (sym c.if-eq.ensures) in
    let member = read_member c.args.clause.now c.loop-m.m-index m (omega arith) c.m-item.is in
    elim c.match-value.branch [
      | in-Unassigned+in_ok-assign-in-Unassigned w ↦
          let step = w.in_ok-assign-in-Unassigned.ensures in
          let lits : w.assign.new.self.lits ≡ c.loop-m.trail.lits ++ negation m ∷ [] = step.ok ∙ ap (λ n. c.loop-m.trail.lits ++ n ∷ []) w.negation.ensures in
          let P : List Literal → Type 0 = λ lits. OthersFalse lits (seen ++ m ∷ []) c.args.l in
          let Q : List Literal → Type 0 = λ lits. (set : List Literal) → OthersFalse set c.args.clause.now c.args.l → IsSubset lits set in
          rw w.trail-is (record {
            size = step.size ∙ c.loop-m.invariant.size;
            others = rw more (subst P (sym lits) (others_assigned c.loop-m.trail.lits seen c.args.l m c.loop-m.invariant.others));
            least = subst Q (sym lits) (least_assigned c.loop-m.trail.lits c.args.clause.now c.args.l m member differ c.loop-m.invariant.least);
          })
      | in-False w ↦
          rw w.trail-is (record {
            size = c.loop-m.invariant.size;
            others = rw more (others_false c.loop-m.trail.lits seen c.args.l m w.in-False.ensures.value.0 c.loop-m.invariant.others);
            least = c.loop-m.invariant.least;
          })
    ]

pub returns-clause-possible : goal.returns-clause-possible
returns-clause-possible c =
    let P : List Literal → Type 0 = λ lits. OthersFalse c.loop-m.trail.lits lits c.args.l in
    λ _. subst P (take_all c.loop-m.m-index c.args.clause.now (omega arith)) c.loop-m.invariant.others
