use Rattle.std.proofs.Common.{◌≤◌, List, length, take, arith, refl, subst}
use Rattle.std.specs.Prelude.{All}
use Rattle.std.proofs.lemmas.List.{take_all}
use Rattle.std.proofs.lemmas.List.Elements.{All-push}
use Rattle.eq_proof.specs.Literal.{Literal}
use Rattle.eq_proof.proofs.Lists.{taken_at}
use Rattle.eq_proof.proofs.clauses.Clauses.are_within.Goals as goal

pub loop-place-preserved : goal.loop-place-preserved
loop-place-preserved c =
    rw (taken_at c.args.self.now c.loop-place.place _ c.at.ensures.clause) (All-push (All (λ (l : Literal). l.var ≤ c.args.vars)) (take c.loop-place.place c.args.self.now) c.at.result.now c.loop-place.invariant (c.is_within.ensures.0 c.if-not-is_within.false))

pub returns : goal.returns
returns c =
    let P : List (List Literal) → Type 0 = All (All (λ (l : Literal). l.var ≤ c.args.vars)) in
    let end : length c.args.self.now ≤ c.loop-place.place = omega arith in
    (λ _. subst P (take_all c.loop-place.place c.args.self.now end) c.loop-place.invariant, λ _. refl)
