use Rattle.std.proofs.Common.{◌≡◌, ℕ, ◌+◌, ◌-◌, ◌*◌, ◌&&◌, length, arith, ap, subst, ◌∙◌}
use Rattle.eq_net.specs.Numbers.{all_ones, some_one}
use Rattle.eq_blast.specs.inner.Growing.{Gives, Grown}
use Rattle.eq_blast.specs.inner.Stack.{seen}
use Rattle.eq_blast.specs.inner.Steps.{step_cost, step_value}
use Rattle.eq_blast.proofs.Along.{all_three}
use Rattle.eq_blast.proofs.Growth.{gives_still, grown_more, grown_twice, left_of, right_of}
use Rattle.eq_blast.proofs.Tested.{few_steps, ok_both, performs_one}
use Rattle.eq_blast.proofs.truths.logical.Goals as goal

pub returns : goal.returns
returns c =
    let s = c.args.stack.now.items in
    let l = c.args.left in
    let r = c.args.right in
    let m = r - l in
    let n = length s - r in
    let k = c.args.kind in
    let b0 = c.args.builder.now in
    let b1 = c.some.new.builder in
    let b2 = c.some-2.new.builder in
    let b3 = c.step.new.builder in
    let t = c.in_ok-truth.truth in
    let x = c.in_ok-x.x in
    let y = c.in_ok-y.y in
    let size : c.len.result - r ≡ n = (let e = c.len.ensures in let ok = c.args.stack.now.ok in omega arith) in
    let P : ℕ → Type 0 = λ w. Gives b2 y (λ v. some_one w (seen v s r)) (λ d. all_ones w (seen d s r)) in
    let G : ℕ → Type 0 = λ w. Grown (4 * w) b1 b2 in
    let right = subst P size c.in_ok-y.ensures.gives in
    let g1 = c.in_ok-x.ensures.grown in
    let g2 = subst G size c.in_ok-y.ensures.grown in
    let g3 = c.in_ok-truth.ensures.grown in
    let left2 = gives_still (4 * n) b1 b2 g2 x (λ v. some_one m (seen v s l)) (λ d. all_ones m (seen d s l)) c.in_ok-x.ensures.gives in
    let left3 = gives_still (step_cost k) b2 b3 g3 x (λ v. some_one m (seen v s l)) (λ d. all_ones m (seen d s l)) left2 in
    let right3 = gives_still (step_cost k) b2 b3 g3 y (λ v. some_one n (seen v s r)) (λ d. all_ones n (seen d s r)) right in
    let i = c.in_ok-truth.ensures.gives in
    let few = few_steps k in
    let order = c.requires.order in
    let gives : Gives b3 t (λ v. step_value k (some_one m (seen v s l)) (some_one n (seen v s r)) (some_one n (seen v s r))) (λ d. all_ones m (seen d s l) && all_ones n (seen d s r)) = record {
      there = i.there;
      value = λ v co. i.value v co ∙ ap (λ p. step_value k p (v y) (v y)) (left3.value v co) ∙ ap (λ p. step_value k (some_one m (seen v s l)) p p) (right3.value v co);
      has = λ d cl h. i.has d cl (all_three k (d x) (d y) (d y) (left3.has d cl (left_of (all_ones m (seen d s l)) (all_ones n (seen d s r)) h))
          (right3.has d cl (right_of (all_ones m (seen d s l)) (all_ones n (seen d s r)) h)) (right3.has d cl (right_of (all_ones m (seen d s l)) (all_ones n (seen d s r)) h)));
    } in
    ok_both c.leave_one.result
    (λ w p. performs_one (4 * (m + n) + 4) l t (λ v. step_value k (some_one m (seen v s l)) (some_one n (seen v s r)) (some_one n (seen v s r))) (λ d. all_ones m (seen d s l) && all_ones n (seen d s r))
    b0 b3 s c.leave_one.new.stack.items
    (grown_more ((4 * m + 4 * n) + step_cost k) (4 * (m + n) + 4) b0 b3 (omega arith) (grown_twice (4 * m + 4 * n) (step_cost k) b0 b2 b3 (grown_twice (4 * m) (4 * n) b0 b1 b2 g1 g2) g3))
    w p gives)
    c.leave_one.ensures.written c.leave_one.ensures.put
