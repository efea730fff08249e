use Rattle.std.proofs.Common.{◌≡◌, arith, subst, sym, ◌∙◌}
use Rattle.std.proofs.lemmas.Fmt.{decimal_injective}
use Rattle.eq_unroll.specs.Query.{IsUnrollable}
use Rattle.eq_wit.proofs.questions.cycles.Goals as goal

pub returns-else-is_unrollable : goal.returns-else-is_unrollable
returns-else-is_unrollable c = λ k h e.
    let few = h.few_cycles in
    let same : c.in_ok-k.k ≡ k = decimal_injective c.in_ok-k.k k (omega arith) (omega (arith, few))
    (sym c.in_ok-k.ensures.0 ∙ e) in
    absurd (cc (c.if-is_unrollable.ensures.1 (subst (IsUnrollable c.args.part.now) (sym same) h)))
