use Rattle.std.proofs.Common.{ℕ, ◌+◌, ◌*◌, ◌&&◌, cond}
use Rattle.eq_net.specs.Numbers.{all_ones, differ}
use Rattle.eq_blast.specs.inner.Stack.{seen}
use Rattle.eq_blast.specs.inner.Steps.{folded, step_cost}
use Rattle.eq_blast.proofs.Growth.{gives_still, grown_twice, through_one}
use Rattle.eq_blast.proofs.Tested.{ok_both, performs_one}
use Rattle.eq_blast.proofs.truths.test.Goals as goal

pub returns : goal.returns
returns c =
    let n = c.args.count in
    let s = c.args.stack.now.items in
    let l = c.args.left in
    let r = c.args.right in
    let k = c.args.kind in
    let b0 = c.args.builder.now in
    let b1 = c.fold.new.builder in
    let b2 = c.flipped.new.builder in
    let v = c.in_ok-value.value in
    let t = c.in_ok-truth.truth in
    let one : ℕ = cond {A = ℕ} c.args.negate 1 0 in
    let f : _ → _ = λ x. folded k (x c.args.start) n (seen x s l) (seen x s r) in
    let g : _ → _ = λ d. d c.args.start && (all_ones n (seen d s l) && all_ones n (seen d s r)) in
    ok_both c.leave_one.result
    (λ w p. performs_one (n * step_cost k + one) c.args.to t (λ x. differ c.args.negate (f x)) g b0 b2 s c.leave_one.new.stack.items
    (grown_twice (n * step_cost k) one b0 b1 b2 c.in_ok-value.ensures.grown c.in_ok-truth.ensures.grown) w p
    (through_one b2 t v f g (differ c.args.negate) c.in_ok-truth.ensures.gives (gives_still one b1 b2 c.in_ok-truth.ensures.grown v f g c.in_ok-value.ensures.gives)))
    c.leave_one.ensures.written c.leave_one.ensures.put
