use Rattle.std.proofs.Common.{ℕ, ◌+◌, ◌-◌, ◌*◌, ◌==◌, true, cond, arith, ◌∙◌}
use Rattle.std.proofs.lemmas.Result.{on_ok_weaker}
use Rattle.eq_net.specs.Numbers.{number}
use Rattle.eq_blast.specs.declared.gates.Kind.TheVariants.{Equal}
use Rattle.eq_blast.specs.inner.Stack.{seen}
use Rattle.eq_blast.proofs.Growth.{constants_still}
use Rattle.eq_blast.proofs.Performed.{one_has, one_value}
use Rattle.eq_blast.proofs.Tested.{folded_equal, tested}
use Rattle.eq_blast.proofs.truths.equality.Goals as goal

pub returns : goal.returns
returns c =
    let n = c.args.right - c.args.left in
    let s = c.args.stack.now.items in
    let b0 = c.args.builder.now in
    let b1 = c.test.new.builder in
    let one : ℕ = cond {A = ℕ} c.args.negate 1 0 in
    on_ok_weaker c.test.result
    (λ p. tested Equal c.args.negate true n 1 c.args.left c.args.right c.args.left (3 * n + one) b0 b1 s c.test.new.stack.items
    (λ x. number n (seen x s c.args.left) == number n (seen x s c.args.right)) (one_value b1) (one_has b1)
    (λ x. folded_equal n (seen x s c.args.left) (seen x s c.args.right) ∙ c.order_from_the_lowest.ensures.same n (seen x s c.args.left) (seen x s c.args.right))
    (omega arith) (constants_still (n * 3 + one) b0 b1 p.grown c.requires.constants) p)
    c.test.ensures
