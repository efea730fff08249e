use Rattle.std.proofs.Common.{◌≡◌, ◌⊎◌, inl, inr, take, List, sym, subst, arith}
use Rattle.std.proofs.lemmas.List.{take_all}
use Rattle.std.proofs.lemmas.List.Elements.{All-push}
use Rattle.eq_proof.specs.Literal.{Literal}
use Rattle.eq_proof.specs.Sets.{IsFalse}
use Rattle.eq_proof.proofs.Judging.{taken_more}
use Rattle.eq_proof.proofs.Forcing.{equal_when}
use Rattle.eq_cdcl.specs.inner.Visiting.{AreFalseBut}
use Rattle.eq_cdcl.proofs.visiting.another.Goals as goal

pub loop-l-preserved-then-eq : goal.loop-l-preserved-then-eq
loop-l-preserved-then-eq c =
    let l = c.l-item.result in
    let seen = take c.loop-l.l-index c.args.clause.now in
    let more = taken_more c.args.clause.now c.loop-l.l-index l (omega arith) c.l-item.is in
    let P : Literal → Type 0 = λ m. (m ≡ c.args.other) ⊎ IsFalse c.args.trail.now.lits m in
    rw more (All-push P seen l c.loop-l.invariant (inl (equal_when l c.args.other (sym c.if-eq.ensures))))

pub returns : goal.returns
returns c =
    let P : List Literal → Type 0 = λ ls. AreFalseBut c.args.trail.now.lits ls c.args.other in
    subst P (take_all c.loop-l.l-index c.args.clause.now (omega arith)) c.loop-l.invariant

pub loop-l-preserved : goal.loop-l-preserved
loop-l-preserved c =
    let l = c.l-item.result in
    let seen = take c.loop-l.l-index c.args.clause.now in
    let more = taken_more c.args.clause.now c.loop-l.l-index l (omega arith) c.l-item.is in
    let P : Literal → Type 0 = λ m. (m ≡ c.args.other) ⊎ IsFalse c.args.trail.now.lits m in
    rw more (All-push P seen l c.loop-l.invariant (inr c.if-not-is_false.ensures))
