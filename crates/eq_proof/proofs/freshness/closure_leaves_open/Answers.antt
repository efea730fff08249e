use Rattle.std.proofs.Common.{Bool, refl, subst}
use Rattle.std.specs.Prelude.{MatchBool}
use Rattle.eq_proof.specs.Literal.{negation}
use Rattle.eq_proof.specs.Sets.{IsUnit}
use Rattle.eq_proof.specs.Propagation.{OthersFalse, IsDone, IsRefused}
use Rattle.eq_proof.proofs.Refuting.{never}
use Rattle.eq_proof.proofs.Forcing.{others_kept, settled_when_done}
use Rattle.eq_proof.proofs.freshness.closure_leaves_open.Goals as goal

pub returns-then-not-branch-2-clause-answer : goal.returns-then-not-branch-2-clause-answer
returns-then-not-branch-2-clause-answer c =
    let least = c.in_ok-assume_others_false.ensures.least c.if-not-branch.false in
    let P : Bool → Type 0 = λ b. MatchBool b (IsDone c.args.before.now c.propagate.new.trail.lits) (IsRefused c.args.before.now c.assume_others_false.new.trail.lits) in
    let refused : IsRefused c.args.before.now c.assume_others_false.new.trail.lits = subst P c.if-not-branch-2.true c.in_ok-propagate.ensures.answer in
    never (λ some. refused some.0 some.1 (least some.0 some.2.others))

pub returns-in-Unassigned-clause-answer : goal.returns-in-Unassigned-clause-answer
returns-in-Unassigned-clause-answer c =
    let set = c.propagate.new.trail.lits in
    let P : Bool → Type 0 = λ b. MatchBool b (IsDone c.args.before.now set) (IsRefused c.args.before.now c.assume_others_false.new.trail.lits) in
    let done : IsDone c.args.before.now set = subst P c.if-not-branch-2.false c.in_ok-propagate.ensures.answer in
    let others : OthersFalse set c.args.clause.now c.args.l = others_kept c.assume_others_false.new.trail.lits set c.args.clause.now c.args.l c.in_ok-propagate.ensures.kept (c.in_ok-assume_others_false.ensures.possible c.if-not-branch.false) in
    let unit : IsUnit set c.args.clause.now c.args.l = record { member = c.requires.member; no_value = c.in-Unassigned.ensures.value; others = others } in
    (λ _. (set, settled_when_done c.args.before.now set c.in-Unassigned.ensures.consistent done, unit), λ _. refl)

pub returns-in-True-clause-answer : goal.returns-in-True-clause-answer
returns-in-True-clause-answer c =
    let least = c.in_ok-assume_others_false.ensures.least c.if-not-branch.false in
    never (λ some. some.2.no_value.0 (c.in_ok-propagate.ensures.forced some.0 some.1 (least some.0 some.2.others) c.args.l c.in-True.ensures.value.0))

pub returns-in-False-clause-answer : goal.returns-in-False-clause-answer
returns-in-False-clause-answer c =
    let least = c.in_ok-assume_others_false.ensures.least c.if-not-branch.false in
    never (λ some. some.2.no_value.1 (c.in_ok-propagate.ensures.forced some.0 some.1 (least some.0 some.2.others) (negation c.args.l) c.in-False.ensures.value.0))
