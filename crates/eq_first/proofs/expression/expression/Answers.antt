use Rattle.std.proofs.Common.{◌≡◌, Option, subst, rules}
use Rattle.std.specs.Prelude.{IfOk}
use Rattle.eq_first.specs.declared.module.Expr.{Expr}
use Rattle.eq_first.proofs.Runs.{run_on, run_off, run_end}
use Rattle.eq_first.proofs.expression.expression.Goals as goal

pub returns-in_default : goal.returns-in_default
returns-in_default c = run_off _ _ c.args.tokens.now c.loop-token.token-index _ _ c.in_ok-next.field-0 c.loop-token-test.true c.loop-token.invariant c.in_ok-next.ensures (search rules)

pub loop-token-preserved : goal.loop-token-preserved
loop-token-preserved c = run_on _ _ c.args.tokens.now c.loop-token.token-index _ _ c.in_ok-next.field-0 c.in-Some.next c.loop-token-test.true c.loop-token.invariant c.in_ok-next.ensures c.in-Some.is

pub returns : goal.returns
returns c =
    let P : Option Expr → Type 0 = λ x. IfOk c.finish.result (λ o. o ≡ x) in
    subst P (run_end _ _ c.args.tokens.now c.loop-token.token-index _ c.loop-token-test.false c.loop-token.invariant) c.finish.ensures
