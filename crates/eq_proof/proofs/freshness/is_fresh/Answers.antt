use Rattle.std.proofs.Common.{◌≡◌, true, false, List, take, arith, sym, ◌∙◌, subst}
use Rattle.std.specs.Prelude.{All}
use Rattle.std.proofs.lemmas.List.{take_all}
use Rattle.std.proofs.lemmas.List.Elements.{All-push, All-contains}
use Rattle.eq_proof.specs.Literal.{Literal}
use Rattle.eq_proof.specs.Fresh.{IsOpenFor}
use Rattle.eq_proof.proofs.Judging.{taken_more}
use Rattle.eq_proof.proofs.Refuting.{never}
use Rattle.eq_proof.proofs.freshness.is_fresh.Goals as goal

pub loop-l-preserved : goal.loop-l-preserved
loop-l-preserved c =
    let l = c.l-item.result in
    let P : Literal → Type 0 = λ m. ¬ IsOpenFor c.args.before.now c.args.clause.now m in
    let closed : P l = λ some. let clash : true ≡ false = sym (c.in_ok-leaves_open.ensures.answer.1 some) ∙ c.if-branch.false in cc in
    record {
      size = c.leaves_open.ensures.size ∙ c.loop-l.invariant.size;
      empty = c.in_ok-leaves_open.ensures.empty;
      none = rw (taken_more c.args.clause.now c.loop-l.l-index l (omega arith) c.l-item.is) (All-push P (take c.loop-l.l-index c.args.clause.now) l c.loop-l.invariant.none closed);
    }

pub returns-clause-answer : goal.returns-clause-answer
returns-clause-answer c =
    let P : List Literal → Type 0 = All (λ m. ¬ IsOpenFor c.args.before.now c.args.clause.now m) in
    let none = subst P (take_all c.loop-l.l-index c.args.clause.now (omega arith)) c.loop-l.invariant.none in
    never (λ fresh. All-contains (λ m. ¬ IsOpenFor c.args.before.now c.args.clause.now m) c.args.clause.now fresh.0 none fresh.1.2.member fresh.1)
