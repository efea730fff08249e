use Rattle.std.proofs.Common.{◌≡◌, ℕ, ◌+◌, ◌-◌, ◌*◌, ◌&&◌, false, cond, length, arith, refl, subst}
use Rattle.std.proofs.lemmas.Result.{on_ok_weaker}
use Rattle.eq_net.specs.Numbers.{all_ones, differ, some_one}
use Rattle.eq_net.specs.Operators.{one_bit}
use Rattle.eq_blast.specs.declared.gates.Kind.TheVariants.{Or}
use Rattle.eq_blast.specs.inner.Needs.{one_needs}
use Rattle.eq_blast.specs.inner.Stack.{Performs, seen}
use Rattle.eq_blast.specs.inner.Steps.{folded}
use Rattle.eq_blast.proofs.Growth.{both_of, constants_still}
use Rattle.eq_blast.proofs.Performed.{zero_has, zero_value}
use Rattle.eq_blast.proofs.Tested.{folded_or, one_same, tested}
use Rattle.eq_blast.proofs.truths.any.Goals as goal

pub returns : goal.returns
returns c =
    let s = c.args.stack.now.items in
    let from = c.args.from in
    let n = length s - from in
    let s1 = c.test.new.stack.items in
    let b0 = c.args.builder.now in
    let b1 = c.test.new.builder in
    let one : ℕ = cond {A = ℕ} c.args.negate 1 0 in
    let le = c.requires.from in
    let count : c.len.result - from ≡ n = (let e = c.len.ensures in let ok = c.args.stack.now.ok in omega arith) in
    let P : ℕ → Type 0 = λ w. Performs (w * 4 + one) 1 from (λ x. one_bit (differ c.args.negate (folded Or (x 0) w (seen x s from) (seen x s from))))
    (λ d. one_needs (d 0 && (all_ones w (seen d s from) && all_ones w (seen d s from)))) b0 b1 s s1 in
    on_ok_weaker c.test.result
    (λ p. one_same (4 * n + one) (4 * n + one) from (λ x. differ c.args.negate (some_one n (seen x s from))) (λ d. all_ones n (seen d s from) && all_ones n (seen d s from))
    (λ x. differ c.args.negate (some_one n (seen x s from))) (λ d. all_ones n (seen d s from)) b0 b1 s s1 (omega arith) (λ x co. refl)
    (λ d cl h. both_of (all_ones n (seen d s from)) (all_ones n (seen d s from)) h h)
    (tested Or c.args.negate false n 0 from from from (4 * n + one) b0 b1 s s1
    (λ x. some_one n (seen x s from)) (zero_value b1) (zero_has b1)
    (λ x. folded_or n (seen x s from) (seen x s from))
    (omega arith) (constants_still (n * 4 + one) b0 b1 (subst P count p).grown c.requires.constants) (subst P count p)))
    c.test.ensures
