use Rattle.std.proofs.Common.{arith, sym, ◌∙◌}
use Rattle.eq_proof.proofs.WordLists.{one_number}
use Rattle.eq_proof.proofs.words.variable.Goals as goal

pub returns-then-var-eq0-clause-none : goal.returns-then-var-eq0-clause-none
returns-then-var-eq0-clause-none c = λ var rest pos up e.
    let same = (one_number c.in_ok-var.var var c.in_ok-var.rest.now rest c.in_ok-var.ensures.fits (omega arith) (sym c.in_ok-var.ensures.some ∙ e)).0 in
    omega arith

pub returns-then-from-var-clause-none : goal.returns-then-from-var-clause-none
returns-then-from-var-clause-none c = λ var rest pos up e.
    let same = (one_number c.in_ok-var.var var c.in_ok-var.rest.now rest c.in_ok-var.ensures.fits (omega arith) (sym c.in_ok-var.ensures.some ∙ e)).0 in
    omega arith
