use Rattle.std.proofs.Common.{◌≡◌, arith, sym, ◌∙◌}
use Rattle.eq_wit.proofs.StepLemmas.{one_number}
use Rattle.eq_wit.proofs.steps.antecedent.Goals as goal

pub returns-then-n-eq0 : goal.returns-then-n-eq0
returns-then-n-eq0 c = λ n some less e.
    let same : c.in_ok-n.n ≡ n = one_number c.in_ok-n.n n (omega arith) (omega (arith, less))
    (sym c.in_ok-n.ensures.some ∙ e) in
    omega (arith, same, some, c.if-n-eq0.true)

pub returns-else-n-limit : goal.returns-else-n-limit
returns-else-n-limit c = λ n some less e.
    let same : c.in_ok-n.n ≡ n = one_number c.in_ok-n.n n (omega arith) (omega (arith, less))
    (sym c.in_ok-n.ensures.some ∙ e) in
    omega (arith, same, less, c.if-n-limit.false)
