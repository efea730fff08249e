use Rattle.std.proofs.Common.{◌≡◌, ℕ, ◌-◌, length, arith, ap, subst, ◌∙◌}
use Rattle.eq_net.specs.Numbers.{some_one}
use Rattle.eq_net.specs.inner.Cells.{Gives, seen}
use Rattle.eq_net.specs.inner.CellSteps.{step_value}
use Rattle.eq_net.proofs.Cellular.{grown_twice, ok_both}
use Rattle.eq_net.proofs.CellTruths.{performs_one}
use Rattle.eq_net.proofs.cells.truths.logical.Goals as goal

pub returns : goal.returns
returns c =
    let s = c.args.stack.now.items in
    let l = c.args.left in
    let r = c.args.right in
    let m = r - l in
    let n = length s - r in
    let k = c.args.kind in
    let c0 = c.args.cells.now.items in
    let c1 = c.some.new.cells.items in
    let c2 = c.some-2.new.cells.items in
    let c3 = c.step.new.cells.items in
    let x = c.in_ok-x.x in
    let y = c.in_ok-y.y in
    let size : c.len.result - r ≡ n = (let e = c.len.ensures in let ok = c.args.stack.now.ok in omega arith) in
    let P : ℕ → Type 0 = λ w. Gives c2 y (λ v. some_one w (seen v s r)) in
    let right = subst P size c.in_ok-y.ensures.gives in
    let left = c.in_ok-x.ensures.gives in
    let g2 = c.in_ok-y.ensures.grown in
    let i = c.in_ok-truth.ensures in
    let gives : Gives c3 c.in_ok-truth.truth (λ v. step_value k (some_one m (seen v s l)) (some_one n (seen v s r)) (some_one n (seen v s r))) = record {
      value = λ v h. i.gives.value v h ∙ ap (λ p. step_value k p (v.cells y) (v.cells y)) (left.value v (g2.before v (i.grown.before v h)))
          ∙ ap (λ p. step_value k (some_one m (seen v s l)) p p) (right.value v (i.grown.before v h));
    } in
    ok_both c.leave_one.result
    (λ w p. performs_one l c.in_ok-truth.truth (λ v. step_value k (some_one m (seen v s l)) (some_one n (seen v s r)) (some_one n (seen v s r))) c0 c3 s c.leave_one.new.stack.items
    (grown_twice c0 c2 c3 (grown_twice c0 c1 c2 c.in_ok-x.ensures.grown g2) i.grown) w p gives)
    c.leave_one.ensures.written c.leave_one.ensures.put
