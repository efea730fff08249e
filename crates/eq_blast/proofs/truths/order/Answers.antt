use Rattle.std.proofs.Common.{ℕ, ◌+◌, ◌*◌, nat_lt, false, cond, arith, ◌∙◌}
use Rattle.std.proofs.lemmas.Result.{on_ok_weaker}
use Rattle.eq_net.specs.Numbers.{number}
use Rattle.eq_blast.specs.declared.gates.Kind.TheVariants.{Less}
use Rattle.eq_blast.specs.inner.Stack.{seen}
use Rattle.eq_blast.proofs.Growth.{constants_still}
use Rattle.eq_blast.proofs.Performed.{zero_has, zero_value}
use Rattle.eq_blast.proofs.Tested.{folded_less, tested}
use Rattle.eq_blast.proofs.truths.order.Goals as goal

pub returns : goal.returns
returns c =
    let n = c.args.count in
    let s = c.args.stack.now.items in
    let b0 = c.args.builder.now in
    let b1 = c.test.new.builder in
    let one : ℕ = cond {A = ℕ} c.args.negate 1 0 in
    on_ok_weaker c.test.result
    (λ p. tested Less c.args.negate false n 0 c.args.first c.args.second c.args.to (2 * n + one) b0 b1 s c.test.new.stack.items
    (λ x. nat_lt (number n (seen x s c.args.first)) (number n (seen x s c.args.second))) (zero_value b1) (zero_has b1)
    (λ x. folded_less n (seen x s c.args.first) (seen x s c.args.second) ∙ c.order_from_the_lowest.ensures.less n (seen x s c.args.first) (seen x s c.args.second))
    (omega arith) (constants_still (n * 2 + one) b0 b1 p.grown c.requires.constants) p)
    c.test.ensures
