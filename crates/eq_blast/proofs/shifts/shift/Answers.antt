use Rattle.std.proofs.Common.{◌≡◌, ℕ, ◌+◌, ◌-◌, ◌*◌, ◌&&◌, length, min, nat_le, slice_index_or, arith, ap, subst, ◌∙◌}
use Rattle.eq_net.specs.Numbers.{all_ones, number}
use Rattle.eq_blast.specs.inner.Shifts.{moved, own}
use Rattle.eq_blast.specs.inner.Stack.{Performs, seen}
use Rattle.eq_blast.proofs.Staged.{shift_performed, there_moved}
use Rattle.eq_blast.proofs.shifts.shift.Goals as goal

pub stages-requires-clause-there : goal.stages-requires-clause-there
stages-requires-clause-there c =
    let s = c.args.stack.now.items in
    let some = c.requires.constants.room in
    let order = c.requires.order in
    let sizes = c.requires.sizes in
    there_moved (c.args.right - c.args.left) c.args.builder.now s c.push_raised.new.stack.items (λ j. nat_le 0 j) (λ j. c.args.left + (j - 0)) (omega arith) c.requires.there
    c.in_ok-push_raised.ensures.written (λ j lt e. omega arith) c.in_ok-push_raised.ensures.put

pub returns : goal.returns
returns c =
    let s0 = c.args.stack.now.items in
    let s1 = c.push_raised.new.stack.items in
    let s2 = c.stages.new.stack.items in
    let b0 = c.args.builder.now in
    let b1 = c.stages.new.builder in
    let up = c.args.up in
    let left = c.args.left in
    let right = c.args.right in
    let m = right - left in
    let n = length s0 - right in
    let order = c.requires.order in
    let sizes = c.requires.sizes in
    let size : length s1 ≡ length s0 + m = c.in_ok-push_raised.ensures.written.size in
    let top : c.len-top.result ≡ length s0 = (let e = c.len-top.ensures in let ok = c.args.stack.now.ok in omega arith) in
    let width : length s1 - length s0 ≡ m = omega arith in
    let P : ℕ → Type 0 = λ t. Performs ((t - right) * (length s1 - t)) (length s1 - t) t (λ x. moved up (length s1 - t) (min (length s1 - t) (number (t - right) (seen x s1 right))) (seen x s1 t))
    (λ d i. own up (length s1 - t) (seen d s1 t) i && all_ones (t - right) (seen d s1 right)) b0 b1 s1 s2 in
    let Q : ℕ → Type 0 = λ w. Performs (n * w) w (length s0) (λ x. moved up w (min w (number n (seen x s1 right))) (seen x s1 (length s0)))
    (λ d i. own up w (seen d s1 (length s0)) i && all_ones n (seen d s1 right)) b0 b1 s1 s2 in
    shift_performed c.operations_see_their_bits.ensures.number up m n left right b0 b1 s0 s1 s2 c.move_down.new.stack.items (omega arith) (omega arith)
    c.in_ok-push_raised.ensures.written c.in_ok-push_raised.ensures.put (subst Q width (subst P top c.in_ok-stages.ensures)) c.move_down.ensures.written
    (λ j lt. c.move_down.ensures.moved j lt ∙ ap (λ t. slice_index_or s2 (t + j) 0) top)
